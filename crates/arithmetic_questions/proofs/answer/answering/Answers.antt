-- `answering` meets its contract. Assumes nothing.
use mathlib.Core.Path.{sym, ap, ◌∙◌}
use Rattle.arithmetic_questions.specs.Result.{Result, exit}
use Rattle.arithmetic_questions.specs.Answers.{Outcome, reported}
use Rattle.arithmetic_questions.proofs.QuestionLaws.{as_refused}
use Rattle.arithmetic_questions.specs.Reports.{report_at}
use Rattle.arithmetic_questions.proofs.answer.answering.Goals as goal

pub returns-in-Ok : goal.returns-in-Ok
unfolding report_at exit
returns-in-Ok c =
    let a = c.args in
    record {
      outcome_value = sym c.in-Ok.is;
      report_value = sym (ap (λ (z : Outcome). report_at (reported z) a.report) c.in-Ok.is);
    }

pub returns-in-Err : goal.returns-in-Err
unfolding report_at exit
returns-in-Err c =
    let a = c.args in
    let (i, j, l, n) = as_refused c.in-Err.why in
    record {
      outcome_value = sym c.in-Err.is;
      report_value = c.refused_report.ensures ∙ sym (ap (λ (z : Outcome). report_at (reported z) a.report) c.in-Err.is ∙ ap (λ (z : Result (Unit {0})). report_at z a.report) n);
    }
