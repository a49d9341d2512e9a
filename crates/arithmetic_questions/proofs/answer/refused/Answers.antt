-- `refused` meets its contract. Assumes nothing.
use mathlib.Core.Path.{refl}
use Rattle.arithmetic_questions.proofs.answer.refused.Goals as goal

pub returns : goal.returns
returns c =
    record {
      outcome_value = refl;
      report_value = c.refused_report.ensures;
    }
