-- `column_sum_minus_identity` meets its contract, by the loop of a sum. Assumes nothing.
use Rattle.std.proofs.Common.{rules}
use mathlib.Core.Path.{◌∙◌, ap}
use Rattle.arithmetic_floats.specs.Float.{magnitude}
use Rattle.arithmetic_matrices.specs.Product.{minus_identity_entry}
use Rattle.arithmetic_matrices.specs.Norm.{sum_of_magnitudes}
use Rattle.arithmetic_matrices.proofs.SeenSums.{partial_start, partial_turn, partial_end}
use Rattle.arithmetic_matrices.proofs.norm.column_sum_minus_identity.Goals as goal

pub loop-i-init : goal.loop-i-init
loop-i-init g c = partial_start (ap g.T.Real.float c.ZERO-sum.ensures ∙ g.met.T.Real.zero_law)

pub loop-i-preserved : goal.loop-i-preserved
loop-i-preserved g c =
    let laws = g.met.T.Real in
    let entry = laws.item_law _ _ _ c.index-w-x.is (search rules) in
    partial_turn c.loop-i.invariant c.loop-i-test.true (laws.add_law _ _ _ c.add-sum.ensures)
    (c.magnitude.ensures.value ∙ ap magnitude (c.minus_identity_entry.ensures ∙ ap (minus_identity_entry g.T.Real.format c.loop-i.i c.args.j) entry))

pub returns : goal.returns
unfolding sum_of_magnitudes
returns g c = search partial_end
