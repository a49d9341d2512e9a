-- `place` meets its contract, by the loop over the rows (`Placed`). Assumes nothing.
use Rattle.arithmetic_matrices.proofs.LoopLaws.{Placed}
use Rattle.arithmetic_matrices.proofs.matrix.place.Given as goal

abbrev pub invariant-loop-i : goal.invariant-loop-i
invariant-loop-i g l = Placed l.o l.step l.n (g.T.Real.floats l.src) (g.T.Real.floats l.initial.w) (g.T.Real.floats l.w) l.i
