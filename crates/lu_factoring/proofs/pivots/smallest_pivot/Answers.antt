-- `smallest_pivot` meets its contract, by the search on the diagonal (`SmallestTo` of PivotLaws). Assumes nothing.
use native.Mathlib.Omega.{arith}
use mathlib.Core.Path.{◌∙◌, ap}
use Rattle.arithmetic_floats.specs.Float.{magnitude}
use Rattle.arithmetic_matrices.proofs.MatrixLaws.{index_lt}
use Rattle.lu_factoring.proofs.PivotLaws.{smallest_start, smallest_turn, smallest_end}
use Rattle.lu_factoring.proofs.pivots.smallest_pivot.Goals as goal

pub loop-k-init : goal.loop-k-init
loop-k-init g c = rw (ap g.T.Real.float c.INFINITY-least.ensures ∙ g.met.T.Real.infinity_law) (smallest_start c.args.n (g.T.Real.floats c.args.w.now) c.args.off)

pub overflow_mul-k : goal.overflow_mul-k
overflow_mul-k g c = omega (arith, (index_lt c.loop-k-test.true c.loop-k-test.true))

pub overflow_add-k : goal.overflow_add-k
overflow_add-k g c = omega (arith, (index_lt c.loop-k-test.true c.loop-k-test.true))

pub overflow_add-off : goal.overflow_add-off
overflow_add-off g c = omega (arith, (index_lt c.loop-k-test.true c.loop-k-test.true))

pub offset_bounds-w-off : goal.offset_bounds-w-off
offset_bounds-w-off g c = omega (arith, (index_lt c.loop-k-test.true c.loop-k-test.true))

pub bounds-w-off : goal.bounds-w-off
bounds-w-off g c = omega (arith, (index_lt c.loop-k-test.true c.loop-k-test.true))

pub loop-k-preserved : goal.loop-k-preserved
loop-k-preserved g c =
    let laws = g.met.T.Real in
    let h = c.loop-k-test.true in
    let read = laws.item_law _ _ _ c.index-w-off.is (omega (arith, index_lt h h)) in
    smallest_turn c.loop-k.invariant h (c.magnitude.ensures.value ∙ ap magnitude read) c.smaller-least.ensures

pub returns : goal.returns
returns g c = smallest_end c.loop-k.invariant c.loop-k-test.false
