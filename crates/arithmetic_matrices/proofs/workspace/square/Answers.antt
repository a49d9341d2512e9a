-- `square` meets its contract. The invariant: so many squarings are done. Assumes nothing.
use native.Mathlib.Omega.{arith}
use Rattle.arithmetic_matrices.proofs.Slots.{squared_step, squared_none}
use Rattle.arithmetic_matrices.proofs.workspace.square.Goals as goal

pub loop-done-init : goal.loop-done-init
loop-done-init g c = (omega arith, squared_none g.T.Real.format _ _ _ _)

pub loop-done-preserved : goal.loop-done-preserved
loop-done-preserved g c =
    let pre = c.requires in (
      omega arith,
      rw (c.copy.ensures, c.mult.ensures)
          (squared_step _ _ _ _ _ _ _ pre.room pre.a_bound.0 pre.a_bound.1 c.loop-done.invariant.1),
    )
