-- `difference_quotient` meets its contract, by the loop over the entries of a slot. Assumes nothing.
use mathlib.Core.Path.{◌∙◌}
use lib.Ieee.{sub, div}
use Rattle.std.proofs.Common.{rules}
use Rattle.arithmetic_matrices.specs.Product.{difference_quotient_m}
use Rattle.arithmetic_matrices.proofs.LoopLaws.{entries_start, entries_end, own_entry, other_entry}
use Rattle.arithmetic_matrices.proofs.SeenEntries.{seen_turn}
use Rattle.arithmetic_matrices.proofs.workspace.difference_quotient.Goals as goal

pub loop-k-preserved : goal.loop-k-preserved
loop-k-preserved g c =
    let e = c.loop-k.invariant in
    let h = c.loop-k-test.true in
    let laws = g.met.T.Real in
    let F = g.T.Real.format in
    seen_turn g.T.Real.float g.T.Real.floats _ _ laws.set_law e h
    (laws.div_law _ _ _ c.div.ensures ∙ (λ i. div F
    ((laws.sub_law _ _ _ c.sub.ensures ∙ (λ j. sub F
    ((laws.item_law _ _ _ c.index-w-y.is (search rules) ∙ own_entry e h) j)
    ((laws.item_law _ _ _ c.index-w-x.is (search rules) ∙ other_entry e c.args.b c.requires.c_bound.2 h) j))) i)
    (g.T.Real.float c.args.h)))

pub loop-k-init : goal.loop-k-init
loop-k-init g c = entries_start search

pub returns : goal.returns
unfolding difference_quotient_m
returns g c = search entries_end
