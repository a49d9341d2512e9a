-- `eliminate` meets its contract, by the loop over the rows (`EliminatedTo` of LuLoop). Assumes nothing.
use mathlib.Core.Path.{◌∙◌, ap}
use lib.Ieee.{div}
use Rattle.lu_factoring.proofs.LuLoop.{eliminated_start, eliminated_turn, eliminated_end}
use Rattle.lu_factoring.proofs.factor.eliminate.Goals as goal

pub returns : goal.returns
returns g c =
    let laws = g.met.T.Real in
    let numerator = ap g.T.Real.float c.ONE.ensures ∙ laws.one_law in
    eliminated_end c.loop-i.invariant c.loop-i-test.false (laws.div_law _ _ _ c.div-t.ensures ∙ (λ i. div g.T.Real.format (numerator i) (c.entry.ensures i)))

pub loop-i-init : goal.loop-i-init
loop-i-init g c = eliminated_start c.requires.0 (g.met.T.Real.length_law _ ∙ c.requires.1)

pub loop-i-preserved : goal.loop-i-preserved
loop-i-preserved g c = search eliminated_turn
