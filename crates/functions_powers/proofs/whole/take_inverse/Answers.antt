-- `take_inverse` meets its contract. Assumes nothing.
use mathlib.Core.Path.{refl, ◌∙◌}
use Rattle.arithmetic_matrices.specs.Workspace.{slot}
use Rattle.arithmetic_questions.specs.declared.answer.Refusal.TheVariants.{NotConverged}
use Rattle.arithmetic_questions.proofs.ReportLaws.{report_done, report_refused}
use Rattle.functions_definitions.specs.Reports.{lu_report}
use Rattle.functions_powers.proofs.WholeLaws.{inverse_none, inverse_done, inverse_reported}
use Rattle.functions_powers.proofs.whole.take_inverse.Goals as goal

pub returns-in-Err : goal.returns-in-Err
returns-in-Err g c =
    let a = c.args in
    let d = c.invert-d in
    let no = c.refused in
    let R = inverse_none g.T.Real.format a.n (g.T.Real.floats a.w.now) c.requires.room _ (g.T.Real.floats d.new.w) d.result.outcome d.ensures.outcome_value.0 refl d.ensures.outcome_value.1 _ no.result.outcome c.in-Err.is no.ensures.outcome_value in
    record {
      replaced = R;
      report_value = report_refused _ (lu_report g.T.Real.format a.n (slot a.n (g.T.Real.floats a.w.now) 0)) no.result.report no.result.outcome NotConverged R.outcome no.ensures.outcome_value no.ensures.report_value;
    }

pub returns-in-Ok : goal.returns-in-Ok
returns-in-Ok g c =
    let a = c.args in
    let d = c.invert-d in
    let R = inverse_done g.T.Real.format a.n (g.T.Real.floats a.w.now) c.requires.room _ (g.T.Real.floats d.new.w) d.result.outcome d.ensures.outcome_value.0 refl d.ensures.outcome_value.1 (g.T.Real.floats c.copy.new.w) c.in-Ok.is c.copy.ensures in
    record {
      replaced = R;
      report_value = inverse_reported g.T.Real.format a.n (slot a.n (g.T.Real.floats a.w.now) 0) (g.T.Real.float d.result.smallest) c.factored.result d.ensures.smallest_value c.factored.ensures ∙ report_done _ _ 0 R.outcome;
    }
