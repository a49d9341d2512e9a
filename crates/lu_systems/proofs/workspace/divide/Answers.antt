-- `divide` meets its contract: where all columns pass, the pivots name rows, as `solve_in` requires. Assumes nothing.
use mathlib.Core.Path.{sym, ◌∙◌}
use native.Mathlib.Omega.{arith}
use Rattle.std.proofs.lemmas.Result.{err_from_is_err_and}
use Rattle.lu_factoring.proofs.SystemLaws.{in_rows, divided_all, divided_none}
use Rattle.lu_systems.proofs.workspace.divide.Goals as goal

pub solve_in-requires : goal.solve_in-requires
solve_in-requires g c =
    let a = c.args in
    let d = c.factor_in in (
      omega (arith, c.requires.1, d.auto.w),
      omega (arith, c.requires.2, d.auto.w),
      c.requires.3,
      d.auto.pivots ∙ c.requires.4,
      in_rows g.T.Real.format a.n a.f (g.T.Real.floats a.w.now) a.pivots.now (g.T.Real.floats d.new.w) d.new.pivots d.result d.ensures c.in_ok-factor_in.was c.requires.4,
    )

pub returns : goal.returns
returns g c =
    let a = c.args in
    let d = c.factor_in in
    let all = c.in_ok-factor_in.was in (
      sym all ∙ d.ensures.outcome,
      divided_all g.T.Real.format a.n a.f (g.T.Real.floats a.w.now) a.pivots.now (g.T.Real.floats d.new.w) d.new.pivots d.result d.ensures a.m a.x (g.T.Real.floats c.solve_in.new.w)
          all c.requires.4 (rw (g.met.T.Real.length_law a.w.now) c.requires.1) c.requires.3 c.solve_in.ensures,
    )

pub returns-in_err-factor_in : goal.returns-in_err-factor_in
returns-in_err-factor_in g c =
    let a = c.args in
    let d = c.factor_in in
    let k = c.in_err-factor_in.field-0.0.column in
    let p = err_from_is_err_and c.from_residual.result c.from_residual.ensures.1 in
    rw (p.1, p.2) (
      sym c.in_err-factor_in.was ∙ d.ensures.outcome,
      divided_none g.T.Real.format a.n a.f (g.T.Real.floats a.w.now) a.pivots.now (g.T.Real.floats d.new.w) d.new.pivots d.result d.ensures a.m a.x k c.in_err-factor_in.was,
    )
