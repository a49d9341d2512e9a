-- `sums_of_squares` meets its contract, by the loop of two sums. Assumes nothing.
use Rattle.std.proofs.Common.{rules}
use mathlib.Core.Path.{◌∙◌, ap}
use lib.Ieee.{mul}
use Rattle.arithmetic_matrices.specs.Product.{dot}
use Rattle.arithmetic_matrices.proofs.NormLaws.{squares_part}
use Rattle.arithmetic_matrices.proofs.SeenSums.{partial_start, partial_turn, partial_end}
use Rattle.arithmetic_matrices.proofs.norm.sums_of_squares.Goals as goal

pub loop-i-init : goal.loop-i-init
loop-i-init g c =
    let zero = g.met.T.Real.zero_law in
    (partial_start (ap g.T.Real.float c.ZERO-first.ensures ∙ zero), partial_start (ap g.T.Real.float c.ZERO-second.ensures ∙ zero))

pub loop-i-preserved : goal.loop-i-preserved
loop-i-preserved g c =
    let laws = g.met.T.Real in
    let turn = c.loop-i-test.true in
    let u = laws.item_law _ _ _ c.index-w-x.is (search rules) in
    let v = laws.item_law _ _ _ c.index-w-y.is (search rules) in (
      partial_turn c.loop-i.invariant.0 turn (laws.add_law _ _ _ c.add-first.ensures) (laws.mul_law _ _ _ c.mul.ensures ∙ (λ i. mul g.T.Real.format (u i) (u i))),
      partial_turn c.loop-i.invariant.1 turn (laws.add_law _ _ _ c.add-second.ensures) (laws.mul_law _ _ _ c.mul-in-loop-i.ensures ∙ (λ i. mul g.T.Real.format (v i) (v i))),
    )

pub returns : goal.returns
unfolding dot
returns g c =
    let w = g.T.Real.floats c.args.w.now in
    let h = c.loop-i-test.false in
    (rw (squares_part g.T.Real.format c.args.k w c.args.x) (partial_end c.loop-i.invariant.0 h), rw (squares_part g.T.Real.format c.args.k w c.args.y) (partial_end c.loop-i.invariant.1 h))
