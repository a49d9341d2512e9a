-- `zero` meets its contract, by the loop over the entries of a slot. Assumes nothing.
use Rattle.arithmetic_matrices.specs.Product.{zero_m}
use Rattle.arithmetic_matrices.proofs.LoopLaws.{entries_start, entries_end}
use Rattle.arithmetic_matrices.proofs.SeenEntries.{seen_turn}
use Rattle.arithmetic_matrices.proofs.workspace.zero.Goals as goal

pub loop-k-preserved : goal.loop-k-preserved
loop-k-preserved g c =
    let e = c.loop-k.invariant in
    let h = c.loop-k-test.true in
    let laws = g.met.T.Real in
    seen_turn g.T.Real.float g.T.Real.floats _ _ laws.set_law e h
    (rw c.ZERO.ensures laws.zero_law)

pub loop-k-init : goal.loop-k-init
loop-k-init g c = entries_start search

pub returns : goal.returns
unfolding zero_m
returns g c = search entries_end
