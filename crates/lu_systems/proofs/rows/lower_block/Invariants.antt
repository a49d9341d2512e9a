-- `lower_block` meets its contract. The invariant: each sum is less the first i products of its column. Assumes nothing.
use Prim.Native.Nat.{◌+◌}
use mathlib.Core.Path.{◌≡◌}
use Rattle.arithmetic_matrices.specs.Matrix.{tab}
use Rattle.arithmetic_matrices.proofs.LoopLaws.{Stored}
use Rattle.lu_systems.specs.Kernels.{row_at, column_at}
use Rattle.lu_systems.proofs.ByRows.{less_row}
use Rattle.lu_systems.proofs.rows.lower_block.Given as goal

abbrev pub invariant-loop-i : goal.invariant-loop-i
invariant-loop-i g l =
    let w = g.T.Real.floats l.fn.w in
    g.T.Real.floats l.sums ≡ tab g.row.C (less_row g.T.Real.format w l.y l.j (row_at w l.q) (column_at l.m w l.x) l.i)

abbrev pub invariant-loop-t : goal.invariant-loop-t
invariant-loop-t g l =
    let w = g.T.Real.floats l.fn.w in
    Stored 0 g.row.C (less_row g.T.Real.format w l.y l.j (row_at w l.q) (column_at l.m w l.x) (l.i + 1)) (g.T.Real.floats l.initial.sums) (g.T.Real.floats l.sums) l.t
