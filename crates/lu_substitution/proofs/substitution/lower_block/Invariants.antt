-- `lower_block` meets its contract: each sum is less the first i products of its column. Assumes nothing.
use Prim.Native.Nat.{◌+◌}
use mathlib.Core.Path.{◌≡◌}
use Rattle.arithmetic_matrices.specs.Matrix.{tab}
use Rattle.arithmetic_matrices.proofs.LoopLaws.{Stored}
use Rattle.lu_systems.specs.Kernels.{row_at, column_at}
use Rattle.lu_systems.proofs.ByRows.{less_row}
use Rattle.lu_substitution.proofs.substitution.lower_block.Given as goal

abbrev pub invariant-loop-i : goal.invariant-loop-i
invariant-loop-i g l = g.T.Real.floats l.sums ≡ tab g.row.C (less_row g.T.Real.format (g.T.Real.floats l.x) l.y l.j (row_at (g.T.Real.floats l.f) l.q) (column_at l.m (g.T.Real.floats l.x) 0) l.i)

abbrev pub invariant-loop-t : goal.invariant-loop-t
invariant-loop-t g l = Stored 0 g.row.C (less_row g.T.Real.format (g.T.Real.floats l.x) l.y l.j (row_at (g.T.Real.floats l.f) l.q) (column_at l.m (g.T.Real.floats l.x) 0) (l.i + 1)) (g.T.Real.floats l.initial.sums) (g.T.Real.floats l.sums) l.t
