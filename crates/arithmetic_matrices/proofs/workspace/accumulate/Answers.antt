-- `accumulate` meets its contract, by the loop over the entries of a slot. Assumes nothing.
use mathlib.Core.Path.{◌∙◌}
use lib.Ieee.{add, mul}
use Rattle.std.proofs.Common.{rules}
use Rattle.arithmetic_matrices.specs.Product.{add_multiple_m}
use Rattle.arithmetic_matrices.proofs.ProductLaws.{product_comm}
use Rattle.arithmetic_matrices.proofs.LoopLaws.{entries_start, entries_end, own_entry, other_entry}
use Rattle.arithmetic_matrices.proofs.SeenEntries.{seen_turn}
use Rattle.arithmetic_matrices.proofs.workspace.accumulate.Goals as goal

pub loop-k-preserved : goal.loop-k-preserved
loop-k-preserved g c =
    let e = c.loop-k.invariant in
    let h = c.loop-k-test.true in
    let laws = g.met.T.Real in
    let F = g.T.Real.format in
    seen_turn g.T.Real.float g.T.Real.floats _ _ laws.set_law e h
    (laws.add_law _ _ _ c.add.ensures ∙ (λ i. add F
    ((laws.item_law _ _ _ c.index-w-y.is (search rules) ∙ own_entry e h) i)
    ((laws.mul_law _ _ _ c.mul.ensures ∙ product_comm F _ _ ∙ (λ j. mul F ((laws.item_law _ _ _ c.index-w-x.is (search rules) ∙ other_entry e c.args.p c.requires.c_bound.2 h) j) (g.T.Real.float c.args.by))) i)))

pub loop-k-init : goal.loop-k-init
loop-k-init g c = entries_start search

pub returns : goal.returns
unfolding add_multiple_m
returns g c = search entries_end
