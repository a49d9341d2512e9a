-- `row_dot` meets its contract. The invariant: the sum is that of the first k products, and p is the place of the column's entry k, counted
-- from its first. Assumes nothing.
use Prim.Native.Nat.{◌+◌, ◌*◌, ◌<◌, ◌≤◌}
use native.Mathlib.Omega.{arith}
use native.Mathlib.Nat.{zero-mul}
use mathlib.Core.Path.{◌≡◌, ◌∙◌, ap}
use Rattle.arithmetic_matrices.specs.Matrix.{item}
use Rattle.arithmetic_matrices.specs.Kernels.{row_dot}
use Rattle.arithmetic_matrices.proofs.MatrixLaws.{square_le, index_lt, row_end, more_rows}
use Rattle.arithmetic_matrices.proofs.SeenProducts.{dot_started, dot_added, rest_at}
use Rattle.arithmetic_matrices.proofs.product.row_dot.Goals as goal

pub loop-k-init : goal.loop-k-init
loop-k-init g c = (omega (arith, zero-mul c.args.n), dot_started _ _ _ (ap g.T.Real.float c.ZERO-sum.ensures ∙ g.met.T.Real.zero_law))

pub overflow_add-p : goal.overflow_add-p
overflow_add-p g c =
    let rows : c.loop-k.k * c.args.n + c.args.n ≤ c.args.n * c.args.n = row_end c.loop-k.k c.args.n c.args.n c.loop-k-test.true in
    omega (arith, square_le c.args.n c.requires.0)

pub loop-k-preserved : goal.loop-k-preserved
loop-k-preserved g c =
    let l = c.loop-k in
    let a = c.args in
    let laws = g.met.T.Real in
    let inside : l.k * a.n + a.j < a.n * a.n = index_lt c.loop-k-test.true c.requires.1 in
    let place : a.y + a.j + l.p ≡ a.y + (l.k * a.n + a.j) = omega arith in (
      omega (arith, more_rows l.k a.n),
      dot_added _ _ _ (laws.add_law _ _ _ c.add-sum.ensures) (laws.mul_law _ _ _ c.mul.ensures) l.invariant.1
          (laws.item_law _ _ _ c.index-a-x.is (omega arith))
          (laws.item_law _ _ _ (rest_at a.b.now _ _ _ c.index-column-p.is (omega arith)) (omega arith) ∙ ap (item (g.T.Real.floats a.b.now)) place),
    )

pub returns : goal.returns
unfolding row_dot
returns g c =
    let e : c.loop-k.k ≡ c.args.n = omega arith in
    rw e at c.loop-k.invariant.1
