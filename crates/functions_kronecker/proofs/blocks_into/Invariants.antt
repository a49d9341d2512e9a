-- `blocks_into` meets its contract, by the loop over the rows of blocks. Assumes nothing.
use Prim.Native.Nat.{ℕ, ◌*◌, ◌<◌}
use lib.Ieee.{Float}
use Rattle.arithmetic_matrices.proofs.FilledLaws.{Blocks}
use Rattle.functions_kronecker.specs.Kernels.{FormedBy}
use Rattle.functions_kronecker.proofs.blocks_into.Given as goal

abbrev pub invariant-loop-i : goal.invariant-loop-i
invariant-loop-i g l =
    (e : ℕ → ℕ → ℕ → ℕ → Float) → ((i k : ℕ) → i < l.m → k < l.p → FormedBy g.T.Real.float l.n (g.T.Real.floats l.a) l.q (g.T.Real.floats l.b) i k (goal.F-post g l.entry) e)
    → Blocks (g.T.Real.floats l.initial.out) l.m l.n l.p l.q e (l.i * (l.p * (l.n * l.q))) (g.T.Real.floats l.out) l.i
