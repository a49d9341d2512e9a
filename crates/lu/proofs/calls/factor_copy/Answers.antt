-- `factor_copy` meets its contract: a copy is factored as the matrix is. Assumes nothing.
use Rattle.lu.proofs.CallLaws.{factored_copy}
use mathlib.Core.Path.{◌∙◌}
use native.Mathlib.Nat.{mul-le-mul}
use native.Mathlib.Omega.{arith}
use Rattle.lu.proofs.calls.factor_copy.Goals as goal

pub copy_in-requires : goal.copy_in-requires
copy_in-requires g c = omega (arith, mul-le-mul c.requires.0 c.requires.0)

pub factor_in-requires : goal.factor_in-requires
factor_in-requires g c = (c.requires.0, omega (arith, mul-le-mul c.requires.0 c.requires.0, c.copy_in.auto.w), c.requires.3)

pub returns : goal.returns
returns g c =
    let a = c.args in
    let laws = g.met.T.Real in
    factored_copy g.T.Real.format a.n (g.T.Real.floats a.a.now) (g.T.Real.floats a.w.now) (laws.length_law a.a.now ∙ c.requires.1) (omega (arith, mul-le-mul c.requires.0 c.requires.0, laws.length_law a.w.now)) a.pivots.now (g.T.Real.floats c.copy_in.new.w) (g.T.Real.floats c.factor_in.new.w) c.factor_in.new.pivots c.factor_in.result
    c.copy_in.ensures c.factor_in.ensures
