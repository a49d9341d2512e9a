-- `block_row` meets its contract, by the loop over the parts of the row. Assumes nothing.
use Prim.Native.Nat.{ℕ, ◌+◌, ◌*◌}
use mathlib.Core.Path.{◌≡◌}
use lib.Ieee.{Float}
use Rattle.arithmetic_matrices.proofs.FilledLaws.{Filled}
use Rattle.functions_kronecker.specs.Kernels.{FormedBy}
use Rattle.functions_kronecker.proofs.block_row.Given as goal

abbrev pub invariant-loop-j : goal.invariant-loop-j
invariant-loop-j g l =
    (l.z ≡ l.y + l.j * l.q)
    × ((e : ℕ → ℕ → ℕ → ℕ → Float) → FormedBy g.T.Real.float l.n (g.T.Real.floats l.a) l.q (g.T.Real.floats l.b) l.i l.k (goal.F-post g l.entry) e
    → Filled (g.T.Real.floats l.initial.out) l.y l.n l.q (λ j. e l.i j l.k) l.z (g.T.Real.floats l.out) l.j)
