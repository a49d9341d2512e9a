-- `mult_block` meets its contract, by a walk down the columns and their sums. Assumes nothing.
use Prim.Native.Nat.{ℕ, ◌+◌, ◌*◌, ◌<◌, ◌≤◌}
use native.Mathlib.Nat.{zero-mul}
use native.Mathlib.Omega.{arith}
use mathlib.Core.Path.{◌≡◌, sym, ◌∙◌, ap}
use lib.ListN.{length}
use Rattle.std.proofs.Common.{rules}
use Rattle.arithmetic_matrices.specs.Matrix.{item}
use Rattle.arithmetic_matrices.proofs.MatrixLaws.{length-tab, square_le, index_lt, row_end, more_rows}
use Rattle.arithmetic_matrices.proofs.ProductLaws.{dot_done}
use Rattle.arithmetic_matrices.proofs.LoopLaws.{stored_start, stored_all}
use Rattle.arithmetic_matrices.proofs.SeenEntries.{seen_stored, seen_stored0}
use Rattle.arithmetic_matrices.proofs.SeenProducts.{dot_started, dot_added, rest_at, item_of_tab, item_to_replace, seen_replicate}
use Rattle.arithmetic_matrices.proofs.product.mult_block.Goals as goal

column_inside : {k n t m : ℕ} (j : ℕ) → k < n → t < m → j + m ≤ n → k * n + (j + t) < n * n
column_inside j h b l = index_lt h (omega arith)

pub loop-k-init : goal.loop-k-init
loop-k-init g c =
    let laws = g.met.T.Real in (
      omega (arith, zero-mul c.args.n),
      seen_replicate g.T.Real.float g.T.Real.floats _ _ _ laws.length_law laws.item_law (λ i. dot_started _ _ _ (ap g.T.Real.float c.ZERO-sums.ensures ∙ laws.zero_law)),
    )

pub loop-t-init : goal.loop-t-init
loop-t-init g c = stored_start _ _ _ _

pub loop-t-preserved : goal.loop-t-preserved
loop-t-preserved g c =
    let a = c.args in
    let k = c.loop-k.k in
    let t = c.loop-t.t in
    let laws = g.met.T.Real in
    let float = g.T.Real.float in
    let inside = column_inside _ c.loop-k-test.true c.loop-t-test.true c.requires.1 in
    let place : a.b + a.j + (c.loop-k.p + t) ≡ a.b + (k * a.n + (a.j + t)) = omega arith in
    seen_stored0 float g.T.Real.floats _ _ laws.set_law c.loop-t.invariant c.loop-t-test.true
    (dot_added _ _ _ (laws.add_law _ _ _ c.add.ensures) (laws.mul_law _ _ _ c.mul.ensures)
    (ap float (sym c.index-sums-t.is) ∙ laws.item_law _ _ _ c.index-sums-t.is (search rules) ∙ item_to_replace _ c.loop-t.invariant c.loop-k.invariant.1 c.loop-t-test.true)
    (ap float (sym c.index-w-x.is) ∙ laws.item_law _ _ _ c.index-w-x.is (omega arith))
    (laws.item_law _ _ _ (rest_at a.w.now _ _ _ c.index-columns-p.is (omega arith)) (omega arith) ∙ ap (item (g.T.Real.floats a.w.now)) place))

pub bounds-columns-p : goal.bounds-columns-p
bounds-columns-p g c =
    let inside = column_inside _ c.loop-k-test.true c.loop-t-test.true c.requires.1 in
    search rules

pub offset_bounds-columns-p : goal.offset_bounds-columns-p
offset_bounds-columns-p g c =
    let inside = column_inside _ c.loop-k-test.true c.loop-t-test.true c.requires.1 in
    search rules

pub overflow_add-p-in-loop-k : goal.overflow_add-p-in-loop-k
overflow_add-p-in-loop-k g c =
    let rows : c.loop-k.k * c.args.n + c.args.n ≤ c.args.n * c.args.n = row_end c.loop-k.k c.args.n c.args.n c.loop-k-test.true in
    omega (arith, square_le c.args.n c.requires.0)

pub loop-k-preserved : goal.loop-k-preserved
loop-k-preserved g c =
    (omega (arith, more_rows c.loop-k.k c.args.n), stored_all c.loop-t.invariant c.loop-t-test.false (ap length c.loop-k.invariant.1 ∙ length-tab _ _))

pub loop-t-2-init : goal.loop-t-2-init
loop-t-2-init g c = stored_start _ _ _ _

pub loop-t-2-preserved : goal.loop-t-2-preserved
loop-t-2-preserved g c =
    let laws = g.met.T.Real in
    let float = g.T.Real.float in
    let sum = c.index-sums-t-in-loop-t-2 in
    let e : c.loop-k.k ≡ c.args.n = omega arith in
    seen_stored float g.T.Real.floats _ _ laws.set_law c.loop-t-2.invariant c.loop-t-2-test.true
    (dot_done _ _ _ _ _ _ _ _ e (ap float (sym sum.is) ∙ laws.item_law _ _ _ sum.is (search rules) ∙ item_of_tab _ c.loop-t-2.t c.loop-k.invariant.1 c.loop-t-2-test.true))
