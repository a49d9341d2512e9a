-- `accumulate` meets its contract, by the loop over the entries of a slot. Assumes nothing.
use lib.Ieee.{add, mul}
use Rattle.arithmetic_matrices.specs.Matrix.{item}
use Rattle.arithmetic_matrices.specs.Workspace.{slot}
use Rattle.arithmetic_matrices.proofs.LoopLaws.{SlotEntries}
use Rattle.arithmetic_matrices.proofs.workspace.accumulate.Given as goal

abbrev pub invariant-loop-k : goal.invariant-loop-k
invariant-loop-k g l = SlotEntries l.n l.c (λ i. add g.T.Real.format (item (slot l.n (g.T.Real.floats l.initial.w) l.c) i) (mul g.T.Real.format (item (slot l.n (g.T.Real.floats l.initial.w) l.p) i) (g.T.Real.float l.by))) (g.T.Real.floats l.initial.w) (g.T.Real.floats l.w) l.k
