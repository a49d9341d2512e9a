-- `series_coefficient` meets its contract. Assumes nothing.
use Prim.Native.Nat.{◌%◌}
use mathlib.Core.Path.{ap, ◌∙◌}
use borrow.Author.Tests.{eq-eqb, ne_eqb}
use lib.Ieee.{neg, div}
use Rattle.functions_definitions.specs.Logarithm.{series_coefficient}
use Rattle.functions_logarithms.proofs.logarithm.series_coefficient.Goals as goal

pub returns-then-k-eq0 : goal.returns-then-k-eq0
unfolding neg series_coefficient
returns-then-k-eq0 g c =
    let laws = g.met.T.Real in
    let below = laws.neg_law _ _ c.neg.ensures ∙ ap neg (ap g.T.Real.float c.ONE.ensures ∙ laws.one_law) in
    rw (eq-eqb (c.args.k % 2) 0 c.if-k-eq0.true) (laws.div_law _ _ _ c.div.ensures ∙ (λ i. div g.T.Real.format (below i) (c.of_small.ensures i)))

pub returns-else-k-eq0 : goal.returns-else-k-eq0
unfolding series_coefficient
returns-else-k-eq0 g c =
    let laws = g.met.T.Real in
    let above = ap g.T.Real.float c.ONE-else-k-eq0.ensures ∙ laws.one_law in
    rw (ne_eqb (c.args.k % 2) 0 c.if-k-eq0.false) (laws.div_law _ _ _ c.div-else-k-eq0.ensures ∙ (λ i. div g.T.Real.format (above i) (c.of_small-else-k-eq0.ensures i)))
