-- `sum_of_squared_differences` meets its contract, by the loop of a sum. Assumes nothing.
use Rattle.std.proofs.Common.{rules}
use mathlib.Core.Path.{◌∙◌, ap}
use lib.Ieee.{sub, mul}
use Rattle.arithmetic_matrices.specs.Product.{dot}
use Rattle.arithmetic_matrices.proofs.NormLaws.{squares_tab}
use Rattle.arithmetic_matrices.proofs.SeenSums.{partial_start, partial_turn, partial_end}
use Rattle.arithmetic_matrices.proofs.norm.sum_of_squared_differences.Goals as goal

pub loop-i-init : goal.loop-i-init
loop-i-init g c = partial_start (ap g.T.Real.float c.ZERO-sum.ensures ∙ g.met.T.Real.zero_law)

pub loop-i-preserved : goal.loop-i-preserved
loop-i-preserved g c =
    let laws = g.met.T.Real in
    let u = laws.item_law _ _ _ c.index-w-x.is (search rules) in
    let v = laws.item_law _ _ _ c.index-w-y.is (search rules) in
    let difference = laws.sub_law _ _ _ c.sub-v.ensures ∙ (λ i. sub g.T.Real.format (u i) (v i)) in
    partial_turn c.loop-i.invariant c.loop-i-test.true (laws.add_law _ _ _ c.add-sum.ensures)
    (laws.mul_law _ _ _ c.mul.ensures ∙ (λ i. mul g.T.Real.format (difference i) (difference i)))

pub returns : goal.returns
unfolding dot
returns g c = rw (squares_tab g.T.Real.format c.args.k _) (partial_end c.loop-i.invariant c.loop-i-test.false)
