-- `times` meets its contract, by the loop over the entries of a slot. Assumes nothing.
use mathlib.Core.Path.{◌∙◌}
use lib.Ieee.{mul}
use Rattle.std.proofs.Common.{rules}
use Rattle.arithmetic_matrices.specs.Product.{times_m}
use Rattle.arithmetic_matrices.proofs.ProductLaws.{product_comm}
use Rattle.arithmetic_matrices.proofs.LoopLaws.{entries_start, entries_end, other_entry}
use Rattle.arithmetic_matrices.proofs.SeenEntries.{seen_turn}
use Rattle.arithmetic_matrices.proofs.workspace.times.Goals as goal

pub loop-k-preserved : goal.loop-k-preserved
loop-k-preserved g c =
    let e = c.loop-k.invariant in
    let h = c.loop-k-test.true in
    let laws = g.met.T.Real in
    let F = g.T.Real.format in
    seen_turn g.T.Real.float g.T.Real.floats _ _ laws.set_law e h
    (laws.mul_law _ _ _ c.mul.ensures ∙ product_comm F _ _ ∙ (λ i. mul F ((laws.item_law _ _ _ c.index-w-x.is (search rules) ∙ other_entry e c.args.a c.requires.a_bound.2 h) i) (g.T.Real.float c.args.by)))

pub loop-k-init : goal.loop-k-init
loop-k-init g c = entries_start search

pub returns : goal.returns
unfolding times_m
returns g c = search entries_end
