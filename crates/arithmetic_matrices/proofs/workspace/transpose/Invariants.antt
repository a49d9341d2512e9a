-- `transpose` meets its contract, by the loop over the rows of a slot. Assumes nothing.
use Rattle.arithmetic_matrices.specs.Matrix.{at}
use Rattle.arithmetic_matrices.specs.Workspace.{slot}
use Rattle.arithmetic_matrices.proofs.LoopLaws.{SlotRows}
use Rattle.arithmetic_matrices.proofs.workspace.transpose.Given as goal

abbrev pub invariant-loop-i : goal.invariant-loop-i
invariant-loop-i g l = SlotRows l.n l.c (λ r j. at l.n (slot l.n (g.T.Real.floats l.initial.w) l.a) j r) (g.T.Real.floats l.initial.w) (g.T.Real.floats l.w) l.y l.i
