-- `upper_row` meets its contract. The invariant: the first j numbers of the row are written, and nothing else is changed. Assumes nothing.
use Prim.Native.Nat.{◌-◌, ◌≤◌}
use mathlib.Core.Path.{◌≡◌}
use lib.ListN.{length}
use Rattle.arithmetic_matrices.specs.Matrix.{tab, put}
use Rattle.lu_systems.specs.Kernels.{upper_entry, row_at, column_at}
use Rattle.lu_systems.proofs.rows.upper_row.Given as goal

abbrev pub invariant-loop-j : goal.invariant-loop-j
invariant-loop-j g l = (l.j ≤ l.m) × (length l.w ≡ length l.initial.w) × (g.T.Real.floats l.w ≡ put (g.T.Real.floats l.initial.w) l.y (tab l.j (upper_entry g.T.Real.format l.k (row_at (g.T.Real.floats l.initial.w) l.g) (column_at l.m (g.T.Real.floats l.initial.w) l.y) (row_at (g.T.Real.floats l.initial.w) l.y))))

abbrev pub decreases-loop-j : goal.decreases-loop-j
decreases-loop-j g l = l.m - l.j
