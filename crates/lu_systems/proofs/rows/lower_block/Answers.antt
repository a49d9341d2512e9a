-- `lower_block` meets its contract. The invariant: each sum is less the first i products of its column. Assumes nothing.
use Prim.Native.Nat.{◌+◌, ◌*◌, ◌<◌}
use native.Mathlib.Omega.{arith}
use mathlib.Core.Path.{◌≡◌, sym, ◌∙◌, ap}
use lib.ListN.{length}
use Rattle.std.proofs.Common.{rules}
use Rattle.arithmetic_matrices.specs.Matrix.{item, put}
use Rattle.arithmetic_matrices.proofs.MatrixLaws.{length-tab, row_end}
use Rattle.arithmetic_matrices.proofs.LoopLaws.{stored_start, stored_all}
use Rattle.arithmetic_matrices.proofs.SeenEntries.{seen_stored0, seen_part, seen_put}
use Rattle.arithmetic_matrices.proofs.SeenProducts.{item_to_replace}
use Rattle.lu_systems.specs.Kernels.{row_at, column_at}
use Rattle.lu_systems.proofs.ByRows.{less_added, less_row_none, lower_row_done}
use Rattle.lu_systems.proofs.rows.lower_block.Goals as goal

pub loop-i-init : goal.loop-i-init
loop-i-init g c =
    let laws = g.met.T.Real in
    let a = c.args in
    ap g.T.Real.floats c.copy_from_slice.ensures.after ∙ seen_part g.T.Real.floats a.w.now laws.length_law laws.take_law laws.drop_law (a.y + a.j) _ (omega arith)
    ∙ less_row_none g.T.Real.format (g.T.Real.floats a.w.now) a.y a.j _ (row_at (g.T.Real.floats a.w.now) a.q) (column_at a.m (g.T.Real.floats a.w.now) a.x)

pub loop-t-init : goal.loop-t-init
loop-t-init g c = stored_start _ _ _ _

pub loop-t-preserved : goal.loop-t-preserved
loop-t-preserved g c =
    let a = c.args in
    let i = c.loop-i.i in
    let laws = g.met.T.Real in
    let float = g.T.Real.float in
    let last = row_end i a.k a.m c.loop-i-test.true in
    seen_stored0 float g.T.Real.floats _ _ laws.set_law c.loop-t.invariant c.loop-t-test.true
    (less_added _ _ _ _ (laws.sub_law _ _ _ c.sub.ensures) (laws.mul_law _ _ _ c.mul.ensures)
    (ap float (sym c.index-sums-t.is) ∙ laws.item_law _ _ _ c.index-sums-t.is (search rules) ∙ item_to_replace _ c.loop-t.invariant c.loop-i.invariant c.loop-t-test.true)
    (laws.item_law _ _ _ c.index-w-q.is (omega arith))
    (laws.item_law _ _ _ c.index-w-r.is (omega arith) ∙ ap (item (g.T.Real.floats a.w.now)) (omega arith)))

pub loop-i-preserved : goal.loop-i-preserved
loop-i-preserved g c = stored_all c.loop-t.invariant c.loop-t-test.false (ap length c.loop-i.invariant ∙ length-tab _ _)

pub offset_bounds-w-r : goal.offset_bounds-w-r
offset_bounds-w-r g c =
    let last = row_end c.loop-i.i c.args.k c.args.m c.loop-i-test.true in
    let inside : c.args.x + (c.loop-i.i * c.args.m + c.args.j) + c.loop-t.t < length c.args.w.now = omega arith in
    search rules

pub returns : goal.returns
returns g c =
    let laws = g.met.T.Real in
    let a = c.args in
    let e : c.loop-i.i ≡ a.k = omega arith in
    seen_put g.T.Real.floats a.w.now laws.length_law laws.put_mid_law (a.y + a.j) _ _ (ap length c.copy_from_slice-2.ensures.after ∙ sym (laws.length_law _) ∙ ap length c.loop-i.invariant ∙ length-tab _ _) (omega arith)
    ∙ ap (put (g.T.Real.floats a.w.now) (a.y + a.j)) (ap g.T.Real.floats c.copy_from_slice-2.ensures.after ∙ lower_row_done _ _ _ _ _ _ _ _ _ _ _ e c.loop-i.invariant)
