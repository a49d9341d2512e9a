-- `minus_identity` meets its contract, by a walk down the diagonal (`LessIdentity`). Assumes nothing.
use native.Mathlib.Omega.{arith}
use mathlib.Core.Path.{ap, ◌∙◌}
use lib.Ieee.{sub}
use Rattle.arithmetic_matrices.proofs.LoopLaws.{less_start, less_end}
use Rattle.arithmetic_matrices.proofs.SeenEntries.{seen_less, less_inside}
use Rattle.arithmetic_matrices.proofs.workspace.minus_identity.Goals as goal

pub loop-i-preserved : goal.loop-i-preserved
loop-i-preserved g c =
    let laws = g.met.T.Real in
    let inside = less_inside c.loop-i.invariant c.requires.room c.requires.a_bound c.loop-i-test.true in
    seen_less g.T.Real.float g.T.Real.floats _ _ laws.set_law c.loop-i.invariant c.requires.room c.requires.a_bound c.loop-i-test.true
    (laws.sub_law _ _ _ c.sub.ensures ∙ (λ i. sub g.T.Real.format ((laws.item_law c.loop-i.w c.loop-i.q _ c.index-w-q.is (omega (arith, inside, laws.length_law c.loop-i.w))) i) ((ap g.T.Real.float c.ONE.ensures ∙ laws.one_law) i)))

pub loop-i-init : goal.loop-i-init
loop-i-init g c = less_start search

pub returns : goal.returns
returns g c = search less_end
