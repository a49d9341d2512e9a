-- `zero` meets its contract, by the loop over the entries of a slot. Assumes nothing.
use Rattle.arithmetic_floats.specs.Float.{+zero}
use Rattle.arithmetic_matrices.proofs.LoopLaws.{SlotEntries}
use Rattle.arithmetic_matrices.proofs.workspace.zero.Given as goal

abbrev pub invariant-loop-k : goal.invariant-loop-k
invariant-loop-k g l = SlotEntries l.n l.a (λ i. +zero) (g.T.Real.floats l.initial.w) (g.T.Real.floats l.w) l.k
