-- `logm_with` meets its contract. Assumes nothing.
use Rattle.std.specs.Prelude.{Ok}
use mathlib.Core.Path.{◌≡◌, refl, sym, ◌∙◌}
use mathlib.Core.List.{[], ◌∷◌}
use lib.ListN.{length}
use Rattle.arithmetic_questions.specs.Answers.{Question, found}
use Rattle.arithmetic_questions.specs.Questions.{Call, asked, unary, without_exponent, positive, orders_from_two, of_logm}
use Rattle.arithmetic_matrices.proofs.MatrixLaws.{square_le}
use Rattle.arithmetic_questions.proofs.QuestionLaws.{Shaped, accepted}
use Rattle.arithmetic_questions.proofs.OutputLaws.{one_refused, one_done}
use Rattle.arithmetic_questions.proofs.ReportLaws.{report_refused, report_delivered}
use Rattle.functions_definitions.specs.Logarithm.{logarithm}
use Rattle.functions_definitions.specs.Calls.{logm}
use Rattle.functions_definitions.specs.Reports.{log_report}
use Rattle.functions_definitions.proofs.LateLaws.{late-logarithm}
use native.Mathlib.Omega.{arith}
use Rattle.functions_logarithms.proofs.calls.logm_with.Goals as goal

-- what `ask_logm` accepts has the shape of a call
shaped : (call : Call) (q : Question) → found q ≡ asked of_logm call → q ≡ Ok tt → Shaped call
shaped call q h e = (accepted without_exponent positive orders_from_two call q h e).shape

pub copy_in-requires : goal.copy_in-requires
copy_in-requires g c =
    let a = c.args in
    let h = shaped (unary a.rows a.columns (g.T.Real.floats a.a.now) (length a.out.now ∷ []) (length a.w.now)) c.ask_logm.result c.ask_logm.ensures c.in-Ok.is in
    (omega arith, omega (arith, square_le a.rows (omega (arith, h.small)), h.long, h.room, g.met.T.Real.length_law a.a.now))

pub logm_in-answer-requires : goal.logm_in-answer-requires
logm_in-answer-requires g c =
    let a = c.args in
    let h = shaped (unary a.rows a.columns (g.T.Real.floats a.a.now) (length a.out.now ∷ []) (length a.w.now)) c.ask_logm.result c.ask_logm.ensures c.in-Ok.is in
    record { order = omega (arith, h.small); space = omega (arith, h.room, c.copy_in.auto.w, g.met.T.Real.length_law c.copy_in.new.w) }

pub deliver-requires : goal.deliver-requires
deliver-requires g c =
    let a = c.args in
    let h = shaped (unary a.rows a.columns (g.T.Real.floats a.a.now) (length a.out.now ∷ []) (length a.w.now)) c.ask_logm.result c.ask_logm.ensures c.in-Ok.is in
    (omega (arith, square_le a.rows (omega (arith, h.small)), h.outputs.0), omega (arith, h.room, c.copy_in.auto.w, c.logm_in-answer.auto.w))

pub returns-in-Err : goal.returns-in-Err
unfolding logm
returns-in-Err g c =
    let a = c.args in
    let matrix = g.T.Real.floats a.a.now in
    let call = unary a.rows a.columns matrix (length a.out.now ∷ []) (length a.w.now) in
    let no = c.refused in
    let O = one_refused of_logm call c.ask_logm.result c.ask_logm.ensures a.clears no.result.outcome (g.T.Real.floats a.out.now) (g.T.Real.floats a.w.now) (logarithm g.T.Real.format a.rows matrix) _ c.in-Err.is no.ensures.outcome_value in
    record {
      one_output_with = O;
      report_value = report_refused _ (log_report g.T.Real.format a.rows matrix) no.result.report no.result.outcome c.in-Err.why O.outcome no.ensures.outcome_value no.ensures.report_value;
    }

pub returns-in-Ok : goal.returns-in-Ok
unfolding logm
returns-in-Ok g c =
    let a = c.args in
    let laws = g.met.T.Real in
    let matrix = g.T.Real.floats a.a.now in
    let lent = g.T.Real.floats a.w.now in
    let call = unary a.rows a.columns matrix (length a.out.now ∷ []) (length a.w.now) in
    let h = shaped call c.ask_logm.result c.ask_logm.ensures c.in-Ok.is in
    let i = c.logm_in-answer in
    let d = c.deliver in
    let long = laws.length_law a.out.now in
    let O = one_done of_logm call c.ask_logm.result c.ask_logm.ensures a.clears d.result.outcome (g.T.Real.floats a.out.now) lent (0 ∷ 1 ∷ 2 ∷ 3 ∷ []) a.rows (logarithm g.T.Real.format a.rows) matrix
    (g.T.Real.floats d.new.out) (g.T.Real.floats c.copy_in.new.w) (g.T.Real.floats i.new.w) (g.T.Real.floats d.new.w) i.result.outcome
    c.in-Ok.is (late-logarithm g.T.Real.format a.rows matrix) (omega (arith, h.small)) (omega (arith, h.room, laws.length_law a.w.now)) h.long (long ∙ h.outputs.0) refl c.copy_in.ensures i.ensures.replaced (rw (sym long) at d.ensures.delivered) in
    record {
      one_output_with = O;
      report_value = report_delivered _ _ (log_report g.T.Real.format a.rows) i.result.report d.result.report d.result.outcome i.result.outcome a.rows matrix lent (g.T.Real.floats c.copy_in.new.w)
          (omega (arith, square_le a.rows (omega (arith, h.small)), h.room, laws.length_law a.w.now)) h.long c.copy_in.ensures O.outcome i.ensures.replaced.outcome d.ensures.delivered.outcome i.ensures.report_value d.ensures.report_value;
    }
