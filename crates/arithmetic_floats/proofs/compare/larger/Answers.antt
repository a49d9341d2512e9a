-- `larger` meets its contract, by the law of the comparison. Assumes nothing.
use Rattle.std.proofs.Common.{sym, ◌∙◌}
use Rattle.arithmetic_floats.specs.Float.{larger}
use Rattle.arithmetic_floats.proofs.compare.larger.Goals as goal

pub returns-then-lt : goal.returns-then-lt
unfolding larger
returns-then-lt g c = rw (sym (g.met.T.Real.less_law c.args.a c.args.b) ∙ sym c.lt.ensures ∙ c.if-lt.true)

pub returns-else-lt : goal.returns-else-lt
unfolding larger
returns-else-lt g c = rw (sym (g.met.T.Real.less_law c.args.a c.args.b) ∙ sym c.lt.ensures ∙ c.if-lt.false)
