-- `subtract_row` meets its contract, by the loop over the columns of the row (`SubtractedTo` of LuLoop). Assumes nothing.
use mathlib.Core.Path.{◌∙◌, ap}
use lib.ListN.{set}
use lib.Ieee.{sub}
use Rattle.lu_factoring.proofs.LuLoop.{subtracted_start, subtracted_turn, subtracted_end}
use Rattle.lu_factoring.proofs.factor.subtract_row.Goals as goal

pub loop-j-preserved : goal.loop-j-preserved
loop-j-preserved g c =
    let laws = g.met.T.Real in
    let value = laws.sub_law _ _ _ c.sub-v.ensures ∙ ap (sub g.T.Real.format _) (laws.mul_law _ _ _ c.mul.ensures) in
    subtracted_turn c.loop-j.invariant c.loop-j-test.true c.entry.ensures c.entry-in-loop-j.ensures (c.set_entry.ensures ∙ ap (set _ _) value)

pub loop-j-init : goal.loop-j-init
loop-j-init g c = subtracted_start c.requires.0 c.requires.1 (g.met.T.Real.length_law c.args.m.now ∙ c.requires.2)

pub returns : goal.returns
returns g c = search subtracted_end
