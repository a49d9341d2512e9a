-- `sum_of_squares` meets its contract, by the loop of a sum. Assumes nothing.
use Rattle.std.proofs.Common.{rules}
use mathlib.Core.Path.{◌∙◌, ap}
use lib.Ieee.{mul}
use Rattle.arithmetic_matrices.specs.Product.{dot}
use Rattle.arithmetic_matrices.proofs.NormLaws.{squares_part}
use Rattle.arithmetic_matrices.proofs.SeenSums.{partial_start, partial_turn, partial_end}
use Rattle.arithmetic_matrices.proofs.norm.sum_of_squares.Goals as goal

pub loop-i-init : goal.loop-i-init
loop-i-init g c = partial_start (ap g.T.Real.float c.ZERO-sum.ensures ∙ g.met.T.Real.zero_law)

pub loop-i-preserved : goal.loop-i-preserved
loop-i-preserved g c =
    let laws = g.met.T.Real in
    let number = laws.item_law _ _ _ c.index-w-x.is (search rules) in
    partial_turn c.loop-i.invariant c.loop-i-test.true (laws.add_law _ _ _ c.add-sum.ensures)
    (laws.mul_law _ _ _ c.mul.ensures ∙ (λ i. mul g.T.Real.format (number i) (number i)))

pub returns : goal.returns
unfolding dot
returns g c = rw (squares_part g.T.Real.format c.args.k (g.T.Real.floats c.args.w.now) c.args.x) (partial_end c.loop-i.invariant c.loop-i-test.false)
