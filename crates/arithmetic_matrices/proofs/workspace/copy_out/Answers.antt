-- `copy_out` meets its contract, by the loop of stores. Assumes nothing.
use native.Mathlib.Omega.{arith}
use Rattle.arithmetic_matrices.specs.Matrix.{part}
use Rattle.arithmetic_matrices.proofs.LoopLaws.{stored_start, stored_all}
use Rattle.arithmetic_matrices.proofs.SeenEntries.{seen_stored0}
use Rattle.arithmetic_matrices.proofs.workspace.copy_out.Goals as goal

pub loop-k-preserved : goal.loop-k-preserved
loop-k-preserved g c =
    let laws = g.met.T.Real in
    seen_stored0 g.T.Real.float g.T.Real.floats _ _ laws.set_law c.loop-k.invariant c.loop-k-test.true (laws.item_law _ _ _ c.index-w-x.is (omega arith))

pub loop-k-init : goal.loop-k-init
loop-k-init g c = stored_start _ _ _ _

pub returns : goal.returns
unfolding part
returns g c = stored_all c.loop-k.invariant c.loop-k-test.false (g.met.T.Real.length_law _)
