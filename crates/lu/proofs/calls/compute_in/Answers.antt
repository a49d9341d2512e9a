-- `compute_in` meets its contract. Assumes nothing.
use Rattle.std.proofs.lemmas.Result.{err_from_is_err_and}
use mathlib.Core.Path.{◌∙◌}
use Rattle.lu.proofs.CallLaws.{computing_all, computing_none}
use native.Mathlib.Nat.{mul-le-mul}
use native.Mathlib.Omega.{arith}
use Rattle.lu.proofs.calls.compute_in.Goals as goal

pub copy_out-requires : goal.copy_out-requires
copy_out-requires g c = omega (arith, mul-le-mul c.requires.0 c.requires.0, c.requires.2, c.requires.4, c.factor_copy.auto.w)

pub returns : goal.returns
returns g c =
    let a = c.args in
    let d = c.factor_copy in
    let laws = g.met.T.Real in
    let few = mul-le-mul c.requires.0 c.requires.0 in
    computing_all g.T.Real.format a.n (g.T.Real.floats a.a.now) (g.T.Real.floats a.w.now) (laws.length_law a.a.now ∙ c.requires.1) (omega (arith, few, c.requires.2, laws.length_law a.w.now)) a.rows.now (g.T.Real.floats d.new.w) d.new.pivots d.result d.ensures few
    (g.T.Real.floats a.factors.now) (g.T.Real.floats c.copy_out.new.out) a.pivots.now c.copy_pivots.new.dst c.in_ok-factor_copy.was c.requires.3 (laws.length_law a.factors.now ∙ c.requires.4) (rw (laws.length_law a.factors.now) c.copy_out.ensures) c.copy_pivots.ensures

pub returns-in_err-factor_copy : goal.returns-in_err-factor_copy
returns-in_err-factor_copy g c =
    let a = c.args in
    let d = c.factor_copy in
    let laws = g.met.T.Real in
    let few = mul-le-mul c.requires.0 c.requires.0 in
    let p = err_from_is_err_and c.from_residual.result c.from_residual.ensures.1 in
    rw (p.1, p.2)
    (computing_none g.T.Real.format a.n (g.T.Real.floats a.a.now) (g.T.Real.floats a.w.now) (laws.length_law a.a.now ∙ c.requires.1) (omega (arith, few, c.requires.2, laws.length_law a.w.now)) a.rows.now (g.T.Real.floats d.new.w) d.new.pivots d.result d.ensures few
    (g.T.Real.floats a.factors.now) a.pivots.now _ c.in_err-factor_copy.was)
