-- `diagonal` meets its contract, by the loop over the rows of a slot. Assumes nothing.
use Rattle.arithmetic_matrices.specs.Product.{diagonal_entry}
use Rattle.arithmetic_matrices.proofs.LoopLaws.{SlotRows}
use Rattle.arithmetic_matrices.proofs.workspace.diagonal.Given as goal

abbrev pub invariant-loop-i : goal.invariant-loop-i
invariant-loop-i g l = SlotRows l.n l.a (diagonal_entry (g.T.Real.float l.d)) (g.T.Real.floats l.initial.w) (g.T.Real.floats l.w) l.y l.i
