-- `cosm_in` meets its contract. Assumes nothing.
use mathlib.Core.Path.{sym, ap, ◌∙◌}
use mathlib.Core.List.{[], ◌∷◌}
use lib.Ieee.{add}
use Rattle.arithmetic_questions.specs.Answers.{reported}
use Rattle.arithmetic_floats.specs.Float.{one}
use Rattle.arithmetic_matrices.specs.Norm.{norm1}
use Rattle.arithmetic_matrices.specs.Workspace.{slot}
use Rattle.functions_definitions.specs.Trigonometric.{cosine_at, trigonometric_halvings, cos_m}
use Rattle.functions_definitions.proofs.HalvingLaws.{halvings_few}
use Rattle.arithmetic_questions.specs.Reports.{nothing}
use Rattle.arithmetic_questions.proofs.ReportLaws.{report_done, report_refused}
use Rattle.functions_exponential.proofs.ExponentialLaws.{halved_none, halved_done}
use Rattle.functions_trigonometric.proofs.cosine.cosm_in.Goals as goal

pub cosine_at-requires-clause-s_bound : goal.cosine_at-requires-clause-s_bound
cosine_at-requires-clause-s_bound g c = halvings_few _ _ (sym c.trigonometric_halvings.ensures ∙ ap reported c.in-Ok.is)

pub returns-in-Err : goal.returns-in-Err
unfolding cos_m trigonometric_halvings
returns-in-Err g c =
    let a = c.args in
    let x = slot a.n (g.T.Real.floats a.w.now) 0 in
    let no = c.refused in
    let R = halved_none (0 ∷ 1 ∷ 2 ∷ 3 ∷ 4 ∷ []) a.n (λ s. cosine_at g.T.Real.format a.n s x) (add g.T.Real.format (norm1 g.T.Real.format a.n x) one) c.trigonometric_halvings.result c.trigonometric_halvings.ensures (g.T.Real.floats a.w.now) _ no.result.outcome c.in-Err.is no.ensures.outcome_value in
    record {
      replaced = R;
      report_value = report_refused _ nothing no.result.report no.result.outcome c.in-Err.why R.outcome no.ensures.outcome_value no.ensures.report_value;
    }

pub returns-in-Ok : goal.returns-in-Ok
unfolding cos_m trigonometric_halvings
returns-in-Ok g c =
    let a = c.args in
    let x = slot a.n (g.T.Real.floats a.w.now) 0 in
    let d = c.done in
    let R = halved_done (0 ∷ 1 ∷ 2 ∷ 3 ∷ 4 ∷ []) a.n (λ s. cosine_at g.T.Real.format a.n s x) (add g.T.Real.format (norm1 g.T.Real.format a.n x) one) c.trigonometric_halvings.result c.trigonometric_halvings.ensures (g.T.Real.floats a.w.now) _ d.result.outcome (g.T.Real.floats c.cosine_at.new.w) c.in-Ok.is d.ensures.outcome_value c.cosine_at.ensures.result c.cosine_at.ensures.only in
    record {
      replaced = R;
      report_value = d.ensures.report_value ∙ report_done _ _ _ (sym d.ensures.outcome_value ∙ R.outcome);
    }
