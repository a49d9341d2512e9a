-- `sylvester_part` meets its contract, by the loop of stores. Assumes nothing.

use mathlib.Core.Path.{ap, ◌∙◌}
use Rattle.functions_definitions.specs.Derivatives.{added_where}
use Rattle.arithmetic_matrices.proofs.SeenEntries.{seen_stored}
use Rattle.arithmetic_matrices.proofs.LoopLaws.{stored_start, stored_end}
use Rattle.functions_root_derivatives.proofs.sylvester.sylvester_part.Goals as goal

pub loop-c-preserved : goal.loop-c-preserved
loop-c-preserved g c =
    let laws = g.met.T.Real in
    let a = c.args in
    let f = g.T.Real.format in
    let zero = ap g.T.Real.float c.ZERO.ensures ∙ laws.zero_law in
    seen_stored g.T.Real.float g.T.Real.floats _ _ laws.set_law c.loop-c.invariant c.loop-c-test.true
    (c.add_where-in-loop-c.ensures ∙ (λ i. added_where f ((c.add_where.ensures ∙ (λ j. added_where f (zero j) a.p a.q (c.entry.ensures j))) i) a.r c.loop-c.c (g.T.Real.float a.v)))

pub loop-c-init : goal.loop-c-init
loop-c-init g c = stored_start _ _ _ _

pub returns : goal.returns
returns g c = search stored_end
