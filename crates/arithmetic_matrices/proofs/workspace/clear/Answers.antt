-- `clear` meets its contract, by the loop of stores. Assumes nothing.
use Rattle.arithmetic_matrices.specs.Workspace.{cleared}
use Rattle.arithmetic_matrices.proofs.LoopLaws.{stored_start, stored_end}
use Rattle.arithmetic_matrices.proofs.SeenEntries.{seen_stored0}
use Rattle.arithmetic_matrices.proofs.workspace.clear.Goals as goal

pub loop-k-preserved : goal.loop-k-preserved
loop-k-preserved g c =
    let laws = g.met.T.Real in
    seen_stored0 g.T.Real.float g.T.Real.floats _ _ laws.set_law c.loop-k.invariant c.loop-k-test.true (rw c.ZERO.ensures laws.zero_law)

pub loop-k-init : goal.loop-k-init
loop-k-init g c = stored_start _ _ _ _

pub returns : goal.returns
unfolding cleared
returns g c = stored_end c.loop-k.invariant c.loop-k-test.false
