-- `clear` meets its contract, by the loop of stores. Assumes nothing.
use Rattle.arithmetic_floats.specs.Float.{+zero}
use Rattle.arithmetic_matrices.proofs.LoopLaws.{Stored}
use Rattle.arithmetic_matrices.proofs.workspace.clear.Given as goal

abbrev pub invariant-loop-k : goal.invariant-loop-k
invariant-loop-k g l = Stored 0 8192 (λ i. +zero) (g.T.Real.floats l.initial.w) (g.T.Real.floats l.w) l.k
