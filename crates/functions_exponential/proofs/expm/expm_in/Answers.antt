-- `expm_in` meets its contract. Assumes nothing.
use Rattle.std.specs.Prelude.{Ok}
use mathlib.Core.Path.{refl, sym, ap, ◌∙◌}
use mathlib.Core.List.{[], ◌∷◌}
use Rattle.arithmetic_questions.specs.Answers.{reported}
use Rattle.arithmetic_matrices.specs.Norm.{norm1}
use Rattle.arithmetic_matrices.specs.Workspace.{slot}
use Rattle.functions_definitions.specs.Exponential.{exponential}
use Rattle.functions_definitions.specs.Powers.{halvings_report, exp_m}
use Rattle.functions_definitions.proofs.HalvingLaws.{halvings_few}
use Rattle.functions_definitions.specs.Reports.{exp_report}
use Rattle.arithmetic_questions.proofs.ReportLaws.{report_done, report_refused}
use Rattle.functions_exponential.proofs.ExponentialLaws.{halved_none, halved_done, halved_reported}
use Rattle.functions_exponential.proofs.expm.expm_in.Goals as goal

pub exponential_at-report-requires : goal.exponential_at-report-requires
exponential_at-report-requires g c =
    let h = c.halvings_for-outcome in
    record {
      room = c.requires;
      s_bound = halvings_few _ _ (sym h.ensures ∙ ap reported c.in-Ok.is);
    }

pub returns-in-Ok : goal.returns-in-Ok
unfolding exp_m
returns-in-Ok g c =
    let a = c.args in
    let x = slot a.n (g.T.Real.floats a.w.now) 0 in
    let H = c.halvings_for-outcome.ensures ∙ ap halvings_report c.norm_1.ensures in
    let R = halved_done (0 ∷ 1 ∷ 2 ∷ 3 ∷ 4 ∷ 5 ∷ []) a.n (λ s. exponential g.T.Real.format a.n s x) (norm1 g.T.Real.format a.n x) c.halvings_for-outcome.result H (g.T.Real.floats a.w.now) _ (Ok _) (g.T.Real.floats c.exponential_at-report.new.w) c.in-Ok.is refl c.exponential_at-report.ensures.exponentiated.result c.exponential_at-report.ensures.exponentiated.only in
    record {
      replaced = R;
      report_value = halved_reported g.T.Real.format a.n _ x c.halvings_for-outcome.result c.exponential_at-report.result H c.in-Ok.is c.exponential_at-report.ensures.value ∙ report_done _ _ _ R.outcome;
    }

pub returns-in-Err : goal.returns-in-Err
unfolding exp_m
returns-in-Err g c =
    let a = c.args in
    let x = slot a.n (g.T.Real.floats a.w.now) 0 in
    let H = c.halvings_for-outcome.ensures ∙ ap halvings_report c.norm_1.ensures in
    let no = c.refused in
    let R = halved_none (0 ∷ 1 ∷ 2 ∷ 3 ∷ 4 ∷ 5 ∷ []) a.n (λ s. exponential g.T.Real.format a.n s x) (norm1 g.T.Real.format a.n x) c.halvings_for-outcome.result H (g.T.Real.floats a.w.now) _ no.result.outcome c.in-Err.is no.ensures.outcome_value in
    record {
      replaced = R;
      report_value = report_refused _ (exp_report g.T.Real.format a.n x) no.result.report no.result.outcome c.in-Err.why R.outcome no.ensures.outcome_value no.ensures.report_value;
    }
