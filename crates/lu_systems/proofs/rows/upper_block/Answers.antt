-- `upper_block` meets its contract. The invariant: each sum is less the first i products of its column, the last row first. Assumes nothing.
use Prim.Native.Nat.{ℕ, ◌+◌, ◌-◌, ◌*◌, ◌<◌, ◌≤◌}
use native.Mathlib.Omega.{arith}
use mathlib.Core.Path.{◌≡◌, sym, ◌∙◌, ap}
use lib.ListN.{length}
use Rattle.std.proofs.Common.{rules}
use Rattle.arithmetic_matrices.specs.Matrix.{item}
use Rattle.arithmetic_matrices.proofs.MatrixLaws.{length-tab, row_end, more_rows}
use Rattle.arithmetic_matrices.proofs.LoopLaws.{stored_start, stored_all}
use Rattle.arithmetic_matrices.proofs.SeenEntries.{seen_stored, seen_stored0, seen_part}
use Rattle.arithmetic_matrices.proofs.SeenProducts.{item_of_tab, item_to_replace}
use Rattle.lu_systems.specs.Kernels.{row_at, column_at}
use Rattle.lu_systems.proofs.ByRows.{less_added, less_row_none, upper_row_done}
use Rattle.lu_systems.proofs.rows.upper_block.Goals as goal

-- row r lies before the end of row k
rows_inside : {r k : ℕ} (m : ℕ) → r ≤ k → r * m + m ≤ k * m + m
rows_inside {r} {k} m h = let b : r < k + 1 = omega arith in omega (arith, row_end r (k + 1) m b, more_rows k m)

pub loop-i-init : goal.loop-i-init
loop-i-init g c =
    let laws = g.met.T.Real in
    let a = c.args in
    let w = g.T.Real.floats a.w.now in
    ap g.T.Real.floats c.copy_from_slice.ensures.after ∙ seen_part g.T.Real.floats a.w.now laws.length_law laws.take_law laws.drop_law (a.y + a.j) _ (omega arith)
    ∙ less_row_none g.T.Real.format w a.y a.j _ (λ e. row_at w a.g (a.k - e)) (λ u e. column_at a.m w a.y u (a.k - e))

pub loop-t-init : goal.loop-t-init
loop-t-init g c = stored_start _ _ _ _

pub loop-t-preserved : goal.loop-t-preserved
loop-t-preserved g c =
    let a = c.args in
    let t = c.loop-t.t in
    let laws = g.met.T.Real in
    let float = g.T.Real.float in
    let few : a.k - c.loop-i.i ≤ a.k = omega arith in
    let last = rows_inside a.m few in
    let place : a.y + ((a.k - c.loop-i.i) * a.m + a.j) + t ≡ a.y + ((a.k - c.loop-i.i) * a.m + (a.j + t)) = omega arith in
    seen_stored0 float g.T.Real.floats _ _ laws.set_law c.loop-t.invariant c.loop-t-test.true
    (less_added _ _ _ _ (laws.sub_law _ _ _ c.sub.ensures) (laws.mul_law _ _ _ c.mul.ensures)
    (ap float (sym c.index-sums-t.is) ∙ laws.item_law _ _ _ c.index-sums-t.is (search rules) ∙ item_to_replace _ c.loop-t.invariant c.loop-i.invariant c.loop-t-test.true)
    (laws.item_law _ _ _ c.index-w-g.is (omega arith))
    (laws.item_law _ _ _ c.index-w-p.is (omega arith) ∙ ap (item (g.T.Real.floats a.w.now)) place))

pub loop-i-preserved : goal.loop-i-preserved
loop-i-preserved g c = stored_all c.loop-t.invariant c.loop-t-test.false (ap length c.loop-i.invariant ∙ length-tab _ _)

pub loop-t-2-init : goal.loop-t-2-init
loop-t-2-init g c = stored_start _ _ _ _

pub loop-t-2-preserved : goal.loop-t-2-preserved
loop-t-2-preserved g c =
    let laws = g.met.T.Real in
    let float = g.T.Real.float in
    let sum = c.index-sums-t-in-loop-t-2 in
    let e : c.loop-i.i ≡ c.args.k = omega arith in
    seen_stored float g.T.Real.floats _ _ laws.set_law c.loop-t-2.invariant c.loop-t-2-test.true
    (upper_row_done _ _ _ _ _ _ _ _ _ _ e (laws.div_law _ _ _ c.div.ensures)
    (ap float (sym sum.is) ∙ laws.item_law _ _ _ sum.is (search rules) ∙ item_of_tab _ c.loop-t-2.t c.loop-i.invariant c.loop-t-2-test.true)
    (laws.item_law _ _ _ c.index-w-g-2.is (omega arith)))
