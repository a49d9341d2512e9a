-- `mat_mult` meets its contract. The invariant: the first i rows of the product are written, and nothing else is changed. Assumes nothing.
use Prim.Native.Nat.{◌+◌, ◌*◌, ◌≤◌}
use mathlib.Core.Path.{◌≡◌}
use lib.ListN.{length}
use Rattle.arithmetic_matrices.specs.Matrix.{grid, put}
use Rattle.arithmetic_matrices.specs.Kernels.{row_dot}
use Rattle.arithmetic_matrices.proofs.product.mat_mult.Given as goal

abbrev pub invariant-loop-i : goal.invariant-loop-i
invariant-loop-i g l = (l.i ≤ l.n) × (length l.w ≡ length l.initial.w) × (l.x ≡ l.a + l.i * l.n) × (l.y ≡ l.c + l.i * l.n) × (g.T.Real.floats l.w ≡ put (g.T.Real.floats l.initial.w) l.c (grid l.i l.n (λ k. row_dot g.T.Real.format l.n (g.T.Real.floats l.initial.w) (l.a + k * l.n) (g.T.Real.floats l.initial.w) l.b)))
