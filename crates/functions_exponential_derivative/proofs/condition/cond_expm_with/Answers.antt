-- `cond_expm_with` meets its contract. Assumes nothing.
use mathlib.Core.Path.{sym, ◌∙◌}
use mathlib.Core.List.{[]}
use native.Mathlib.Omega.{arith}
use lib.ListN.{length}
use Rattle.arithmetic_questions.specs.Questions.{unary, without_exponent, anywhere, every_order, of_cond_expm}
use Rattle.arithmetic_questions.proofs.QuestionLaws.{accepted}
use Rattle.arithmetic_questions.proofs.AnswerLaws.{workspace_no}
use Rattle.arithmetic_questions.proofs.OutputLaws.{kept_where}
use Rattle.functions_definitions.specs.Derivatives.{cond_exp_m}
use Rattle.functions_definitions.specs.Calls.{cond_expm}
use Rattle.functions_definitions.specs.Reports.{cond_exp_report}
use Rattle.arithmetic_questions.proofs.ReportLaws.{report_refused, report_passed}
use Rattle.functions_exponential_derivative.proofs.ConditionLaws.{condition_refused, condition_passed, workspace_passed}
use Rattle.functions_definitions.proofs.LateLaws.{late-cond_exp_m}
use Rattle.functions_exponential_derivative.proofs.condition.cond_expm_with.Goals as goal

pub cond_expm_with_room-answer-requires : goal.cond_expm_with_room-answer-requires
cond_expm_with_room-answer-requires g c =
    let a = c.args in
    let asked = c.ask_cond_expm in
    let call = unary a.rows a.columns (g.T.Real.floats a.a.now) [] (length a.w.now) in
    let s = (accepted without_exponent anywhere every_order call asked.result asked.ensures c.in-Ok.is).shape in
    record {
      room = record { order = omega (arith, s.small); space = omega (arith, s.room, g.met.T.Real.length_law a.w.now) };
      n_bound = (s.small, sym (g.met.T.Real.length_law a.a.now) ∙ s.long);
    }

pub clear_where-requires : goal.clear_where-requires
clear_where-requires g c =
    let a = c.args in
    let asked = c.ask_cond_expm in
    let call = unary a.rows a.columns (g.T.Real.floats a.a.now) [] (length a.w.now) in
    let s = (accepted without_exponent anywhere every_order call asked.result asked.ensures c.in-Ok.is).shape in
    omega (arith, s.room, c.cond_expm_with_room-answer.auto.w)

pub returns-in-Err : goal.returns-in-Err
unfolding cond_expm
returns-in-Err g c =
    let a = c.args in
    let asked = c.ask_cond_expm in
    let call = unary a.rows a.columns (g.T.Real.floats a.a.now) [] (length a.w.now) in
    let r = c.refused_condition in
    let x = cond_exp_m g.T.Real.format a.rows (g.T.Real.floats a.a.now) in
    let t = c.in-Err.is in
    let C = condition_refused of_cond_expm call asked.result asked.ensures x r.result.outcome _ _ t r.ensures.outcome_value r.ensures.exponential_norm_value in
    record {
      conditioned = C;
      workspace_left = kept_where a.clears (cond_expm g.T.Real.format a.rows a.columns (g.T.Real.floats a.a.now) (length a.w.now)) (g.T.Real.floats a.w.now) (sym (workspace_no of_cond_expm call x asked.result asked.ensures _ t (g.T.Real.floats a.w.now)));
      report_value = report_refused _ (cond_exp_report g.T.Real.format a.rows (g.T.Real.floats a.a.now)) r.result.report r.result.outcome c.in-Err.why C.outcome r.ensures.outcome_value r.ensures.report_value;
    }

pub returns-in-Ok : goal.returns-in-Ok
unfolding cond_expm
returns-in-Ok g c =
    let a = c.args in
    let asked = c.ask_cond_expm in
    let call = unary a.rows a.columns (g.T.Real.floats a.a.now) [] (length a.w.now) in
    let s = (accepted without_exponent anywhere every_order call asked.result asked.ensures c.in-Ok.is).shape in
    let r = c.cond_expm_with_room-answer in
    let x = cond_exp_m g.T.Real.format a.rows (g.T.Real.floats a.a.now) in
    let t = c.in-Ok.is in
    record {
      conditioned = condition_passed of_cond_expm call asked.result asked.ensures x r.result.outcome _ t r.ensures.conditioned;
      workspace_left = workspace_passed of_cond_expm call asked.result asked.ensures x a.clears (g.T.Real.floats a.w.now) (g.T.Real.floats r.new.w) (g.T.Real.floats c.clear_where.new.w) t (late-cond_exp_m g.T.Real.format a.rows (g.T.Real.floats a.a.now)) (omega (arith, s.room, g.met.T.Real.length_law a.w.now)) r.ensures.only c.clear_where.ensures;
      report_value = report_passed of_cond_expm call asked.result asked.ensures x _ r.result.report t r.ensures.report_value;
    }
