-- `mult_row` meets its contract. The invariant: the first j entries of the row are written, and nothing else is changed. Assumes nothing.
use Prim.Native.Nat.{◌-◌, ◌≤◌}
use mathlib.Core.Path.{◌≡◌}
use lib.ListN.{length}
use Rattle.arithmetic_matrices.specs.Matrix.{tab, put}
use Rattle.arithmetic_matrices.specs.Kernels.{row_dot}
use Rattle.arithmetic_matrices.proofs.product.mult_row.Given as goal

abbrev pub invariant-loop-j : goal.invariant-loop-j
invariant-loop-j g l = (l.j ≤ l.n) × (length l.w ≡ length l.initial.w) × (g.T.Real.floats l.w ≡ put (g.T.Real.floats l.initial.w) l.y (tab l.j (row_dot g.T.Real.format l.n (g.T.Real.floats l.initial.w) l.x (g.T.Real.floats l.initial.w) l.b)))

abbrev pub decreases-loop-j : goal.decreases-loop-j
decreases-loop-j g l = l.n - l.j
