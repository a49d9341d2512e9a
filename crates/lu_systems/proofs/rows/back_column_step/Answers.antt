-- `back_column_step` meets its contract: the division, and the rows above. Assumes nothing.
use Prim.Native.Nat.{◌+◌}
use native.Mathlib.Omega.{arith}
use mathlib.Core.Path.{ap, ◌∙◌}
use lib.ListN.{set}
use lib.Ieee.{div}
use Rattle.lu_systems.proofs.RowSteps.{back_column_step_is}
use Rattle.lu_systems.proofs.rows.back_column_step.Goals as goal

pub returns : goal.returns
returns g c =
    let a = c.args in
    let laws = g.met.T.Real in
    let w = g.T.Real.floats a.w.now in
    let read = laws.item_law _ _ _ c.index-w-x.is (omega arith) in
    back_column_step_is g.T.Real.format a.f a.x a.n w _ (g.T.Real.floats c.lower_column.new.w) (rw (laws.length_law a.w.now) c.requires.2) c.requires.3 a.k (g.T.Real.float c.factor_at.result)
    c.requires.0 c.factor_at.ensures
    (laws.set_law _ _ _ ∙ ap (set w (a.x + a.k)) (laws.div_law _ _ _ c.div.ensures ∙ ap (λ v. div g.T.Real.format v (g.T.Real.float c.factor_at.result)) read)) c.lower_column.ensures
