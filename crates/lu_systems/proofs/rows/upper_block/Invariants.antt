-- `upper_block` meets its contract. The invariant: each sum is less the first i products of its column, the last row first. Assumes nothing.
use Prim.Native.Nat.{◌+◌, ◌-◌}
use mathlib.Core.Path.{◌≡◌}
use Rattle.arithmetic_matrices.specs.Matrix.{tab}
use Rattle.arithmetic_matrices.proofs.LoopLaws.{Stored}
use Rattle.lu_systems.specs.Kernels.{row_at, column_at, upper_entry}
use Rattle.lu_systems.proofs.ByRows.{less_row}
use Rattle.lu_systems.proofs.rows.upper_block.Given as goal

abbrev pub invariant-loop-i : goal.invariant-loop-i
invariant-loop-i g l =
    let w = g.T.Real.floats l.fn.w in
    g.T.Real.floats l.sums ≡ tab g.row.C (less_row g.T.Real.format w l.y l.j (λ e. row_at w l.g (l.k - e)) (λ u e. column_at l.m w l.y u (l.k - e)) l.i)

abbrev pub invariant-loop-t : goal.invariant-loop-t
invariant-loop-t g l =
    let w = g.T.Real.floats l.fn.w in
    Stored 0 g.row.C (less_row g.T.Real.format w l.y l.j (λ e. row_at w l.g (l.k - e)) (λ u e. column_at l.m w l.y u (l.k - e)) (l.i + 1)) (g.T.Real.floats l.initial.sums) (g.T.Real.floats l.sums) l.t

abbrev pub invariant-loop-t-2 : goal.invariant-loop-t-2
invariant-loop-t-2 g l =
    let w = g.T.Real.floats l.fn.w in
    Stored (l.y + l.j) g.row.C (λ t. upper_entry g.T.Real.format l.k (row_at w l.g) (column_at l.m w l.y) (row_at w l.y) (l.j + t)) w (g.T.Real.floats l.w) l.t
