-- `determinant` meets its contract: a refusal gives +0, and where the questions pass the pivots are as the product asks. Assumes nothing.
use mathlib.Core.Path.{◌≡◌, sym, ap, ◌∙◌}
use lib.Ieee.{Float}
use Rattle.std.proofs.Common.{rules}
use Rattle.arithmetic_floats.specs.Float.{+zero}
use Rattle.arithmetic_questions.specs.Result.{Result, done, outcome, exit}
use Rattle.arithmetic_questions.specs.Answers.{reported}
use Rattle.arithmetic_questions.specs.Questions.{answer, of_determinant}
use Rattle.arithmetic_questions.specs.Reports.{nothing}
use Rattle.arithmetic_questions.proofs.AnswerLaws.{answer_passed, outcome_no, exit_no}
use Rattle.arithmetic_questions.proofs.ReportLaws.{report_refused, report_done}
use Rattle.lu_factoring.specs.Solve.{determinant_of}
use Rattle.lu.specs.Calls.{determinant, determinant_call}
use Rattle.lu.proofs.LuQuestionLaws.{determinant_passed}
use Rattle.lu.proofs.calls.determinant.Goals as goal

pub determinant-value-requires : goal.determinant-value-requires
determinant-value-requires g c =
    let a = c.args in
    let asked = c.ask_determinant in
    let s = (determinant_passed a.rows a.columns (g.T.Real.floats a.f.now) a.pivots.now asked.result c.in-Ok.is asked.ensures).system in
    (sym (g.met.T.Real.length_law a.f.now) ∙ s.matrix, s.pivots)

pub returns-in-Err : goal.returns-in-Err
unfolding determinant
returns-in-Err g c =
    let a = c.args in
    let asked = c.ask_determinant in
    let call = determinant_call a.rows a.columns (g.T.Real.floats a.f.now) a.pivots.now in
    let r : Result Float = done 0 (determinant_of g.T.Real.format a.rows (g.T.Real.floats a.f.now) a.pivots.now) in
    let no = c.in-Err.is in
    let v = c.valued.ensures in
    let e = c.refused.ensures in
    let o = ap reported v.0 ∙ e.outcome_value in
    let z : g.T.Real.float c.valued.result.value ≡ +zero = search rules in
    let R = o ∙ sym (outcome_no of_determinant call r asked.result asked.ensures _ no) in
    record {
      outcome_value = R;
      value_value = z ∙ sym (exit_no of_determinant call r asked.result asked.ensures _ no (λ d. d) +zero);
      report_value = report_refused (answer of_determinant call r) nothing _ c.valued.result.outcome c.in-Err.why R o (v.2 ∙ e.report_value);
    }

pub returns-in-Ok : goal.returns-in-Ok
unfolding determinant outcome exit
returns-in-Ok g c =
    let a = c.args in
    let asked = c.ask_determinant in
    let call = determinant_call a.rows a.columns (g.T.Real.floats a.f.now) a.pivots.now in
    let r : Result Float = done 0 (determinant_of g.T.Real.format a.rows (g.T.Real.floats a.f.now) a.pivots.now) in
    let e = answer_passed of_determinant call r asked.result asked.ensures c.in-Ok.is in
    let v = c.valued-in-Ok.ensures in
    let d = c.done.ensures in
    record {
      outcome_value = ap reported v.0 ∙ d.outcome_value ∙ sym (ap outcome e);
      value_value = ap g.T.Real.float v.1 ∙ c.determinant-value.ensures ∙ sym (ap (λ (z : Result Float). exit (λ d. d) z +zero) e);
      report_value = v.2 ∙ d.report_value ∙ report_done (answer of_determinant call r) nothing 0 (sym (ap outcome e));
    }
