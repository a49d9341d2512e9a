-- `forward_rows` meets its contract, by the steps over the rows from the first. Assumes nothing.
use mathlib.Core.Path.{◌∙◌}
use Rattle.lu_substitution.proofs.SubstitutionLaws.{forwarded_start, forwarded_turn, forwarded_end}
use Rattle.lu_substitution.proofs.substitution.forward_rows.Goals as goal

pub loop-i-init : goal.loop-i-init
loop-i-init g c = forwarded_start _ _ _ _ _ (g.met.T.Real.length_law c.args.x.now ∙ c.requires.1)

pub loop-i-preserved : goal.loop-i-preserved
loop-i-preserved g c = forwarded_turn _ _ _ _ _ (g.met.T.Real.length_law c.args.x.now ∙ c.requires.1) c.loop-i.invariant c.loop-i-test.true c.lower_row.ensures

pub returns : goal.returns
returns g c = forwarded_end _ _ _ _ _ (g.met.T.Real.length_law c.args.x.now ∙ c.requires.1) c.loop-i.invariant c.loop-i-test.false
