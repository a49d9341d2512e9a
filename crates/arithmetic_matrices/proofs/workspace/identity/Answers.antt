-- `identity` meets its contract: it is the multiple of the identity by 1. Assumes nothing.
use Rattle.arithmetic_matrices.specs.Product.{identity_m}
use Rattle.arithmetic_matrices.proofs.workspace.identity.Goals as goal

pub returns : goal.returns
unfolding identity_m
returns g c = rw (c.ONE.ensures, g.met.T.Real.one_law) at c.diagonal.ensures
