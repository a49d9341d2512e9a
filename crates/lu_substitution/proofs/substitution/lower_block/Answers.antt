-- `lower_block` meets its contract: each sum is less the first i products of its column. Assumes nothing.
use Prim.Native.Nat.{ℕ, ◌+◌, ◌*◌, ◌<◌, ◌≤◌}
use native.Mathlib.Nat.{zero-add}
use native.Mathlib.Omega.{arith}
use mathlib.Core.Path.{sym, ◌∙◌, ap}
use lib.ListN.{length}
use Rattle.std.proofs.Common.{rules}
use Rattle.arithmetic_matrices.specs.Matrix.{item, put}
use Rattle.arithmetic_matrices.proofs.MatrixLaws.{length-tab, index_lt}
use Rattle.arithmetic_matrices.proofs.LoopLaws.{stored_start, stored_all}
use Rattle.arithmetic_matrices.proofs.SeenEntries.{seen_part, seen_put, seen_stored0}
use Rattle.arithmetic_matrices.proofs.SeenProducts.{item_to_replace}
use Rattle.lu_systems.specs.Kernels.{column_at}
use Rattle.lu_systems.proofs.ByRows.{less_row_none, less_added, lower_row_done}
use Rattle.lu_substitution.proofs.substitution.lower_block.Goals as goal

-- what is read of the rows above
above_inside : {k i m n t : ℕ} (j : ℕ) → i < k → t < n → j + n ≤ m → i * m + (j + t) < k * m
above_inside j l h b = index_lt l (omega arith)

pub loop-i-init : goal.loop-i-init
loop-i-init g c =
    let a = c.args in
    let laws = g.met.T.Real in
    ap g.T.Real.floats c.copy_from_slice.ensures.after
    ∙ seen_part g.T.Real.floats a.x.now laws.length_law laws.take_law laws.drop_law (a.y + a.j) _ (omega arith)
    ∙ less_row_none _ _ a.y a.j _ _ (column_at a.m (g.T.Real.floats a.x.now) 0)

pub loop-t-init : goal.loop-t-init
loop-t-init g c = stored_start _ _ _ _

pub loop-t-preserved : goal.loop-t-preserved
loop-t-preserved g c =
    let laws = g.met.T.Real in
    let float = g.T.Real.float in
    let inside = above_inside c.args.j c.loop-i-test.true c.loop-t-test.true c.requires.0 in
    seen_stored0 float g.T.Real.floats _ _ laws.set_law c.loop-t.invariant c.loop-t-test.true
    (less_added _ _ _ _ (laws.sub_law _ _ _ c.sub.ensures) (laws.mul_law _ _ _ c.mul.ensures)
    (ap float (sym c.index-sums-t.is) ∙ laws.item_law _ _ _ c.index-sums-t.is (search rules) ∙ item_to_replace _ c.loop-t.invariant c.loop-i.invariant c.loop-t-test.true)
    (laws.item_law _ _ _ c.index-f-q.is (omega arith))
    (laws.item_law _ _ _ c.index-x-i.is (omega arith) ∙ ap (item (g.T.Real.floats c.args.x.now)) (sym (zero-add _))))

pub offset_bounds-x-i : goal.offset_bounds-x-i
offset_bounds-x-i g c =
    let inside = above_inside c.args.j c.loop-i-test.true c.loop-t-test.true c.requires.0 in
    search rules

pub loop-i-preserved : goal.loop-i-preserved
loop-i-preserved g c = stored_all c.loop-t.invariant c.loop-t-test.false (ap length c.loop-i.invariant ∙ length-tab _ _)

pub returns : goal.returns
returns g c =
    let a = c.args in
    let laws = g.met.T.Real in
    rw c.copy_from_slice-2.ensures.after
    (seen_put g.T.Real.floats a.x.now laws.length_law laws.put_mid_law (a.y + a.j) _ c.loop-i.sums (search rules) (omega arith)
    ∙ ap (put (g.T.Real.floats a.x.now) (a.y + a.j)) (lower_row_done _ c.loop-i.i a.k _ _ _ _ _ _ _ _ (omega arith) c.loop-i.invariant))
