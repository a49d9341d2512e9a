-- `smaller` meets its contract, by the law of the comparison. Assumes nothing.
use Rattle.std.proofs.Common.{sym, ◌∙◌}
use Rattle.arithmetic_floats.specs.Float.{smaller}
use Rattle.arithmetic_floats.proofs.compare.smaller.Goals as goal

pub returns-then-lt : goal.returns-then-lt
unfolding smaller
returns-then-lt g c = rw (sym (g.met.T.Real.less_law c.args.b c.args.a) ∙ sym c.lt.ensures ∙ c.if-lt.true)

pub returns-else-lt : goal.returns-else-lt
unfolding smaller
returns-else-lt g c = rw (sym (g.met.T.Real.less_law c.args.b c.args.a) ∙ sym c.lt.ensures ∙ c.if-lt.false)
