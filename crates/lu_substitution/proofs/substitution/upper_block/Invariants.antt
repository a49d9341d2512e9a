-- `upper_block` meets its contract: each sum is less the last i products of its column. Assumes nothing.
use Prim.Native.Nat.{◌+◌, ◌-◌}
use mathlib.Core.Path.{◌≡◌}
use Rattle.arithmetic_matrices.specs.Matrix.{tab}
use Rattle.arithmetic_matrices.proofs.LoopLaws.{Stored}
use Rattle.lu_systems.specs.Kernels.{upper_entry, row_at, column_at}
use Rattle.lu_systems.proofs.ByRows.{less_row}
use Rattle.lu_substitution.proofs.substitution.upper_block.Given as goal

abbrev pub invariant-loop-i : goal.invariant-loop-i
invariant-loop-i g l = g.T.Real.floats l.sums ≡ tab g.row.C (less_row g.T.Real.format (g.T.Real.floats l.x) l.y l.j (λ e. row_at (g.T.Real.floats l.f) l.g (l.k - e)) (λ u e. column_at l.m (g.T.Real.floats l.x) l.y u (l.k - e)) l.i)

abbrev pub invariant-loop-t : goal.invariant-loop-t
invariant-loop-t g l = Stored 0 g.row.C (less_row g.T.Real.format (g.T.Real.floats l.x) l.y l.j (λ e. row_at (g.T.Real.floats l.f) l.g (l.k - e)) (λ u e. column_at l.m (g.T.Real.floats l.x) l.y u (l.k - e)) (l.i + 1)) (g.T.Real.floats l.initial.sums) (g.T.Real.floats l.sums) l.t

abbrev pub invariant-loop-t-2 : goal.invariant-loop-t-2
invariant-loop-t-2 g l =
    Stored (l.y + l.j) g.row.C
    (λ t. upper_entry g.T.Real.format l.k (row_at (g.T.Real.floats l.f) l.g) (column_at l.m (g.T.Real.floats l.fn.x) l.y) (row_at (g.T.Real.floats l.fn.x) l.y) (l.j + t))
    (g.T.Real.floats l.fn.x) (g.T.Real.floats l.x) l.t
