-- `upper_block` meets its contract: each sum is less the last i products of its column. Assumes nothing.
use Prim.Native.Nat.{ℕ, ◌+◌, ◌-◌, ◌*◌, ◌<◌, ◌≤◌}
use native.Mathlib.Omega.{arith}
use mathlib.Core.Path.{◌≡◌, sym, ◌∙◌, ap}
use lib.ListN.{length}
use Rattle.std.proofs.Common.{rules}
use Rattle.arithmetic_matrices.specs.Matrix.{item}
use Rattle.arithmetic_matrices.proofs.MatrixLaws.{length-tab, index_lt, more_rows}
use Rattle.arithmetic_matrices.proofs.LoopLaws.{stored_start, stored_all}
use Rattle.arithmetic_matrices.proofs.SeenEntries.{seen_part, seen_stored, seen_stored0}
use Rattle.arithmetic_matrices.proofs.SeenProducts.{item_to_replace, item_of_tab}
use Rattle.lu_systems.specs.Kernels.{column_at}
use Rattle.lu_systems.proofs.ByRows.{less_row_none, less_added, upper_row_done}
use Rattle.lu_substitution.proofs.substitution.upper_block.Goals as goal

-- what is read of the rows below
below_inside : {m n t : ℕ} (k i j : ℕ) → t < n → j + n ≤ m → (k - i) * m + (j + t) < k * m + m
below_inside {m} {t = t} k i j h b =
    let row : k - i < k + 1 = omega arith in
    let inside : (k - i) * m + (j + t) < (k + 1) * m = index_lt row (omega arith) in
    omega (arith, more_rows k m)

pub loop-i-init : goal.loop-i-init
loop-i-init g c =
    let a = c.args in
    let laws = g.met.T.Real in
    ap g.T.Real.floats c.copy_from_slice.ensures.after
    ∙ seen_part g.T.Real.floats a.x.now laws.length_law laws.take_law laws.drop_law (a.y + a.j) _ (omega arith)
    ∙ less_row_none _ _ a.y a.j _ _ (λ u e. column_at a.m (g.T.Real.floats a.x.now) a.y u (a.k - e))

pub loop-t-init : goal.loop-t-init
loop-t-init g c = stored_start _ _ _ _

pub loop-t-preserved : goal.loop-t-preserved
loop-t-preserved g c =
    let laws = g.met.T.Real in
    let float = g.T.Real.float in
    let inside = below_inside c.args.k c.loop-i.i c.args.j c.loop-t-test.true c.requires.0 in
    seen_stored0 float g.T.Real.floats _ _ laws.set_law c.loop-t.invariant c.loop-t-test.true
    (less_added _ _ _ _ (laws.sub_law _ _ _ c.sub.ensures) (laws.mul_law _ _ _ c.mul.ensures)
    (ap float (sym c.index-sums-t.is) ∙ laws.item_law _ _ _ c.index-sums-t.is (search rules) ∙ item_to_replace _ c.loop-t.invariant c.loop-i.invariant c.loop-t-test.true)
    (laws.item_law _ _ _ c.index-f-g.is (omega arith))
    (laws.item_law _ _ _ c.index-x-y.is (omega arith)))

pub offset_bounds-x-y : goal.offset_bounds-x-y
offset_bounds-x-y g c =
    let inside = below_inside c.args.k c.loop-i.i c.args.j c.loop-t-test.true c.requires.0 in
    search rules

pub loop-i-preserved : goal.loop-i-preserved
loop-i-preserved g c = stored_all c.loop-t.invariant c.loop-t-test.false (ap length c.loop-i.invariant ∙ length-tab _ _)

pub loop-t-2-init : goal.loop-t-2-init
loop-t-2-init g c = stored_start _ _ _ _

pub loop-t-2-preserved : goal.loop-t-2-preserved
loop-t-2-preserved g c =
    let laws = g.met.T.Real in
    let float = g.T.Real.float in
    let sum = c.index-sums-t-in-loop-t-2 in
    let pivot : float c.index-f-g-2.result ≡ item (g.T.Real.floats c.args.f.now) c.args.g = laws.item_law _ _ _ c.index-f-g-2.is (omega arith) in
    seen_stored float g.T.Real.floats _ _ laws.set_law c.loop-t-2.invariant c.loop-t-2-test.true
    (upper_row_done _ c.loop-i.i _ _ _ _ _ _ _ _ (omega arith) (laws.div_law _ _ _ c.div.ensures)
    (ap float (sym sum.is) ∙ laws.item_law _ _ _ sum.is (search rules) ∙ item_of_tab _ c.loop-t-2.t c.loop-i.invariant c.loop-t-2-test.true)
    (search rules))
