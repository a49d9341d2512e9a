-- `entry` meets its contract: the read is the item of the list of floats. Assumes nothing.
use Rattle.std.proofs.Common.{rules}
use Rattle.arithmetic_matrices.specs.Matrix.{at}
use Rattle.arithmetic_matrices.proofs.matrix.entry.Goals as goal

pub returns : goal.returns
unfolding at
returns g c = g.met.T.Real.item_law _ _ _ c.index-b-i.is (search rules)
