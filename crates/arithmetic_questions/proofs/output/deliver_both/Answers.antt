-- `deliver_both` meets its contract. Assumes nothing.
use mathlib.Core.Path.{refl, ap}
use Rattle.arithmetic_questions.proofs.BothLaws.{both_delivered, both_kept}
use Rattle.arithmetic_questions.specs.Answers.{reported}
use Rattle.arithmetic_questions.proofs.output.deliver_both.Goals as goal

pub returns-in-Ok : goal.returns-in-Ok
returns-in-Ok g c =
    let a = c.args in
    let e = c.in-Ok.is in
    record {
      delivered_both = both_delivered a.clears a.answer.outcome a.answer.outcome _ _ (g.T.Real.floats a.first.now) (g.T.Real.floats a.second.now) (g.T.Real.floats a.w.now) (g.T.Real.floats c.clear_where.new.w) (g.T.Real.floats c.copy_out.new.out) (g.T.Real.floats c.copy_out-in-Ok.new.out) _ e (ap reported e)
          c.copy_out.ensures c.copy_out-in-Ok.ensures c.clear_where.ensures;
      report_value = refl;
    }

pub returns-in-Err : goal.returns-in-Err
returns-in-Err g c =
    let a = c.args in
    let e = c.in-Err.is in
    record {
      delivered_both = both_kept a.clears a.answer.outcome a.answer.outcome _ _ (g.T.Real.floats a.first.now) (g.T.Real.floats a.second.now) (g.T.Real.floats a.w.now) (g.T.Real.floats c.clear_where-in-Err.new.w) _ e (ap reported e) c.clear_where-in-Err.ensures;
      report_value = refl;
    }
