-- `block_rows` meets its contract, by the loop over the rows of the blocks. Assumes nothing.
use Prim.Native.Nat.{ℕ, ◌+◌, ◌*◌, ◌<◌}
use lib.Ieee.{Float}
use Rattle.arithmetic_matrices.specs.Kernels.{block_row}
use Rattle.arithmetic_matrices.proofs.FilledLaws.{Filled}
use Rattle.functions_kronecker.specs.Kernels.{FormedBy}
use Rattle.functions_kronecker.proofs.block_rows.Given as goal

abbrev pub invariant-loop-k : goal.invariant-loop-k
invariant-loop-k g l =
    (e : ℕ → ℕ → ℕ → ℕ → Float) → ((k : ℕ) → k < l.p → FormedBy g.T.Real.float l.n (g.T.Real.floats l.a) l.q (g.T.Real.floats l.b) l.i k (goal.F-post g l.entry) e)
    → Filled (g.T.Real.floats l.initial.out) l.y l.p (l.n * l.q) (block_row l.q e l.i) (l.y + l.k * (l.n * l.q)) (g.T.Real.floats l.out) l.k
