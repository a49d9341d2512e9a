-- `mult` meets its contract: a slot is a part. Assumes nothing.
use Rattle.arithmetic_matrices.specs.Workspace.{slot, store}
use Rattle.arithmetic_matrices.proofs.workspace.mult.Goals as goal

pub returns : goal.returns
unfolding slot store
returns g c = c.mat_mult.ensures
