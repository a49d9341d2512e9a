-- `mean` meets its contract, by the loop over the entries of a slot. Assumes nothing.
use mathlib.Core.Path.{ap, ◌∙◌}
use lib.Ieee.{add, mul}
use Rattle.std.proofs.Common.{rules}
use Rattle.arithmetic_matrices.specs.Product.{mean_m}
use Rattle.arithmetic_matrices.proofs.LoopLaws.{entries_start, entries_end, other_entry}
use Rattle.arithmetic_matrices.proofs.SeenEntries.{seen_turn}
use Rattle.arithmetic_matrices.proofs.workspace.mean.Goals as goal

pub loop-k-preserved : goal.loop-k-preserved
loop-k-preserved g c =
    let e = c.loop-k.invariant in
    let h = c.loop-k-test.true in
    let laws = g.met.T.Real in
    let F = g.T.Real.format in
    seen_turn g.T.Real.float g.T.Real.floats _ _ laws.set_law e h
    (laws.mul_law _ _ _ c.mul.ensures ∙ (λ i. mul F
    ((laws.add_law _ _ _ c.add.ensures ∙ (λ j. add F
    ((laws.item_law _ _ _ c.index-w-x.is (search rules) ∙ other_entry e c.args.a c.requires.a_bound.3 h) j)
    ((laws.item_law _ _ _ c.index-w-z.is (search rules) ∙ other_entry e c.args.b c.requires.a_bound.4 h) j))) i)
    ((ap g.T.Real.float c.HALF.ensures ∙ laws.half_law) i)))

pub loop-k-init : goal.loop-k-init
loop-k-init g c = entries_start search

pub returns : goal.returns
unfolding mean_m
returns g c = search entries_end
