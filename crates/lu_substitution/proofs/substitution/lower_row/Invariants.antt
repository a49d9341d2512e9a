-- `lower_row` meets its contract: the numbers before column 4 * b, or j, are written, and nothing else is changed. Assumes nothing.
use Prim.Native.Nat.{◌*◌}
use mathlib.Core.Path.{◌≡◌}
use Rattle.arithmetic_matrices.specs.Matrix.{tab, put}
use Rattle.lu_systems.specs.Kernels.{lower_entry, row_at, column_at}
use Rattle.lu_substitution.proofs.substitution.lower_row.Given as goal

abbrev pub invariant-loop-b : goal.invariant-loop-b
invariant-loop-b g l = g.T.Real.floats l.x ≡ put (g.T.Real.floats l.fn.x) l.y (tab (4 * l.b) (lower_entry g.T.Real.format l.k (row_at (g.T.Real.floats l.f) l.q) (column_at l.m (g.T.Real.floats l.fn.x) 0) (row_at (g.T.Real.floats l.fn.x) l.y)))

abbrev pub invariant-loop-j : goal.invariant-loop-j
invariant-loop-j g l = g.T.Real.floats l.x ≡ put (g.T.Real.floats l.fn.x) l.y (tab l.j (lower_entry g.T.Real.format l.k (row_at (g.T.Real.floats l.f) l.q) (column_at l.m (g.T.Real.floats l.fn.x) 0) (row_at (g.T.Real.floats l.fn.x) l.y)))
