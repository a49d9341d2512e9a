-- `two_column_sums` meets its contract, by the loop of two sums. Assumes nothing.
use Rattle.std.proofs.Common.{rules}
use mathlib.Core.Path.{◌∙◌, ap}
use Rattle.arithmetic_floats.specs.Float.{magnitude}
use Rattle.arithmetic_matrices.specs.Norm.{sum_of_magnitudes}
use Rattle.arithmetic_matrices.proofs.SeenSums.{partial_start, partial_turn, partial_end}
use Rattle.arithmetic_matrices.proofs.norm.two_column_sums.Goals as goal

pub loop-i-init : goal.loop-i-init
loop-i-init g c =
    let zero = g.met.T.Real.zero_law in
    (partial_start (ap g.T.Real.float c.ZERO-first.ensures ∙ zero), partial_start (ap g.T.Real.float c.ZERO-second.ensures ∙ zero))

pub loop-i-preserved : goal.loop-i-preserved
loop-i-preserved g c =
    let laws = g.met.T.Real in
    let turn = c.loop-i-test.true in (
      partial_turn c.loop-i.invariant.0 turn (laws.add_law _ _ _ c.add-first.ensures) (c.magnitude.ensures.value ∙ ap magnitude (laws.item_law _ _ _ c.index-w-x.is (search rules))),
      partial_turn c.loop-i.invariant.1 turn (laws.add_law _ _ _ c.add-second.ensures) (c.magnitude-in-loop-i.ensures.value ∙ ap magnitude (laws.item_law _ _ _ c.index-w-x-in-loop-i.is (search rules))),
    )

pub returns : goal.returns
unfolding sum_of_magnitudes
returns g c = (partial_end c.loop-i.invariant.0 c.loop-i-test.false, partial_end c.loop-i.invariant.1 c.loop-i-test.false)
