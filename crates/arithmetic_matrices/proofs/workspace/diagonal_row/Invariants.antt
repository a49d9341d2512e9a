-- `diagonal_row` meets its contract, by the loop of stores. Assumes nothing.
use Rattle.arithmetic_matrices.specs.Product.{diagonal_entry}
use Rattle.arithmetic_matrices.proofs.LoopLaws.{Stored}
use Rattle.arithmetic_matrices.proofs.workspace.diagonal_row.Given as goal

abbrev pub invariant-loop-j : goal.invariant-loop-j
invariant-loop-j g l = Stored l.y l.n (diagonal_entry (g.T.Real.float l.d) l.i) (g.T.Real.floats l.initial.w) (g.T.Real.floats l.w) l.j
