-- `permute_rows` meets its contract, by the steps over the swaps. Assumes nothing.
use mathlib.Core.Path.{◌∙◌}
use Rattle.lu_substitution.proofs.SubstitutionLaws.{swapped_start, swapped_turn}
use Rattle.lu_substitution.proofs.substitution.permute_rows.Goals as goal

pub loop-k-init : goal.loop-k-init
loop-k-init g c = swapped_start _ _ _ _ (g.met.T.Real.length_law c.args.x.now ∙ c.requires.0)

pub loop-k-preserved : goal.loop-k-preserved
loop-k-preserved g c = swapped_turn _ _ _ _ (g.met.T.Real.length_law c.args.x.now ∙ c.requires.0) c.loop-k.invariant c.loop-k-test.true c.exchange_rows.ensures
