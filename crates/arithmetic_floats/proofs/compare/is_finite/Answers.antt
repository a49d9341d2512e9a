-- `is_finite` meets its contract, by the facts of `Signs`. Assumes nothing.
use Rattle.std.proofs.Common.{◌≡◌, Bool, true, T, sym, ap, ◌∙◌, subst}
use Rattle.std.specs.Ordering.{partial_lt}
use lib.Ieee.{lt, neg, inf}
use Rattle.arithmetic_floats.proofs.Signs.{finite_above, finite_below}
use Rattle.arithmetic_floats.proofs.compare.is_finite.Given.{Over}
use Rattle.arithmetic_floats.proofs.compare.is_finite.Goals as goal

-- what the first test says
above : (g : Over) (x i n : g.row.T.Denot) (r : Bool) → i ≡ g.T.Real.INFINITY → g.T.Neg.neg_gives i n → r ≡ partial_lt g.T.PartialOrd.partial_cmp n x
    → r ≡ lt (inf true) (g.T.Real.float x)
unfolding neg
above g x i n r is negated tested =
    let laws = g.met.T.Real in
    let low = laws.neg_law i n negated ∙ ap neg (ap g.T.Real.float is ∙ laws.infinity_law) in
    tested ∙ laws.less_law n x ∙ ap (λ y. lt y (g.T.Real.float x)) low

pub returns-then-lt : goal.returns-then-lt
returns-then-lt g c =
    let laws = g.met.T.Real in
    let high = ap g.T.Real.float c.INFINITY-then-lt.ensures ∙ laws.infinity_law in
    c.lt-then-lt.ensures ∙ laws.less_law c.args.x c.INFINITY-then-lt.result ∙ ap (lt (g.T.Real.float c.args.x)) high
    ∙ finite_above (g.T.Real.float c.args.x) (subst T (sym c.if-lt.true ∙ above g c.args.x c.INFINITY.result c.neg.result c.lt.result c.INFINITY.ensures c.neg.ensures c.lt.ensures) tt)

pub returns-else-lt : goal.returns-else-lt
returns-else-lt g c = c.if-lt.false ∙ finite_below (g.T.Real.float c.args.x) (λ t. subst T (sym (above g c.args.x c.INFINITY.result c.neg.result c.lt.result c.INFINITY.ensures c.neg.ensures c.lt.ensures) ∙ c.if-lt.false) t)
