-- `one_over` meets its contract. Assumes nothing.
use mathlib.Core.Path.{ap, ◌∙◌}
use Rattle.functions_trigonometric.proofs.ReciprocalLaws.{reciprocal}
use Rattle.functions_trigonometric.proofs.cosine.one_over.Goals as goal

pub returns : goal.returns
returns g c =
    let laws = g.met.T.Real in
    laws.div_law _ _ _ c.div.ensures
    ∙ reciprocal g.T.Real.format c.args.k _ (g.T.Real.float c.of_small.result) c.requires (ap g.T.Real.float c.ONE.ensures ∙ laws.one_law) c.of_small.ensures
