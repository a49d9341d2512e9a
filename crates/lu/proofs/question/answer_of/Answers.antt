-- `answer_of` meets its contract: each arm of the match is told the outcome. Assumes nothing.
use mathlib.Core.Path.{refl, ap, ◌∙◌}
use Rattle.arithmetic_questions.specs.Result.{exit}
use Rattle.arithmetic_questions.specs.Reports.{factored, report_at}
use Rattle.lu.proofs.question.answer_of.Goals as goal

pub returns-in-Ok : goal.returns-in-Ok
unfolding report_at exit
returns-in-Ok g c =
    rw c.in-Ok.is record {
      outcome_value = refl;
      report_value = c.factored.ensures ∙ ap factored c.smallest_pivot.ensures;
    }

pub returns-in-Err : goal.returns-in-Err
unfolding report_at exit
returns-in-Err g c = rw c.in-Err.is c.refused.ensures
