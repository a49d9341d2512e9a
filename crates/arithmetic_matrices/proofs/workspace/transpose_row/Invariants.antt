-- `transpose_row` meets its contract, by the loop of stores. Assumes nothing.
use Prim.Native.Nat.{◌+◌, ◌*◌}
use Rattle.arithmetic_matrices.specs.Matrix.{item}
use Rattle.arithmetic_matrices.proofs.LoopLaws.{Stored}
use Rattle.arithmetic_matrices.proofs.workspace.transpose_row.Given as goal

abbrev pub invariant-loop-j : goal.invariant-loop-j
invariant-loop-j g l = Stored l.y l.n (λ k. item (g.T.Real.floats l.initial.w) (l.x + (k * l.n + l.i))) (g.T.Real.floats l.initial.w) (g.T.Real.floats l.w) l.j
