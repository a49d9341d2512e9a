-- `diagonal_row` meets its contract, by the loop of stores. Assumes nothing.
use Rattle.arithmetic_matrices.proofs.LoopLaws.{stored_start, stored_end}
use Rattle.arithmetic_matrices.proofs.SeenEntries.{seen_stored}
use Rattle.arithmetic_matrices.proofs.workspace.diagonal_row.Goals as goal

pub loop-j-preserved : goal.loop-j-preserved
loop-j-preserved g c = seen_stored g.T.Real.float g.T.Real.floats _ _ g.met.T.Real.set_law c.loop-j.invariant c.loop-j-test.true c.diagonal_entry.ensures

pub loop-j-init : goal.loop-j-init
loop-j-init g c = stored_start _ _ _ _

pub returns : goal.returns
returns g c = search stored_end
