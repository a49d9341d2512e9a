-- `copy_out` meets its contract, by the loop of stores. Assumes nothing.
use Prim.Native.Nat.{◌+◌}
use lib.ListN.{length}
use Rattle.arithmetic_matrices.specs.Matrix.{item}
use Rattle.arithmetic_matrices.proofs.LoopLaws.{Stored}
use Rattle.arithmetic_matrices.proofs.workspace.copy_out.Given as goal

abbrev pub invariant-loop-k : goal.invariant-loop-k
invariant-loop-k g l = Stored 0 (length l.initial.out) (λ i. item (g.T.Real.floats l.w) (l.x + i)) (g.T.Real.floats l.initial.out) (g.T.Real.floats l.out) l.k
