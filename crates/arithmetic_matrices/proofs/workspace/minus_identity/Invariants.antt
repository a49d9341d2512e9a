-- `minus_identity` meets its contract, by a walk down the diagonal (`LessIdentity`). Assumes nothing.
use Rattle.arithmetic_matrices.proofs.LoopLaws.{LessIdentity}
use Rattle.arithmetic_matrices.proofs.workspace.minus_identity.Given as goal

abbrev pub invariant-loop-i : goal.invariant-loop-i
invariant-loop-i g l = LessIdentity g.T.Real.format l.n l.a (g.T.Real.floats l.initial.w) (g.T.Real.floats l.w) l.q l.i
