-- `sqrtm_with` meets its contract. Assumes nothing.
use Rattle.std.specs.Prelude.{Ok}
use mathlib.Core.Path.{◌≡◌, refl, sym, ◌∙◌}
use mathlib.Core.List.{[], ◌∷◌}
use lib.ListN.{length}
use Rattle.arithmetic_questions.specs.Answers.{Question, found}
use Rattle.arithmetic_questions.specs.Questions.{Call, asked, unary, without_exponent, nonnegative, every_order, of_sqrtm}
use Rattle.arithmetic_matrices.proofs.MatrixLaws.{square_le}
use Rattle.arithmetic_questions.proofs.QuestionLaws.{Shaped, accepted}
use Rattle.arithmetic_questions.proofs.OutputLaws.{one_refused, one_done}
use Rattle.arithmetic_questions.proofs.ReportLaws.{report_refused, report_delivered}
use Rattle.functions_definitions.specs.Reports.{root_report}
use Rattle.functions_definitions.specs.Roots.{square_root}
use Rattle.functions_definitions.specs.Calls.{sqrtm}
use Rattle.functions_definitions.proofs.LateLaws.{late-root}
use native.Mathlib.Omega.{arith}
use Rattle.functions_roots.proofs.calls.sqrtm_with.Goals as goal

-- what `ask_sqrtm` accepts has the shape of a call
shaped : (call : Call) (q : Question) → found q ≡ asked of_sqrtm call → q ≡ Ok tt → Shaped call
shaped call q h e = (accepted without_exponent nonnegative every_order call q h e).shape

pub copy_in-requires : goal.copy_in-requires
copy_in-requires g c =
    let a = c.args in
    let h = shaped (unary a.rows a.columns (g.T.Real.floats a.a.now) (length a.out.now ∷ []) (length a.w.now)) c.ask_sqrtm.result c.ask_sqrtm.ensures c.in-Ok.is in
    (omega arith, omega (arith, square_le a.rows (omega (arith, h.small)), h.long, h.room, g.met.T.Real.length_law a.a.now))

pub sqrtm_in-answer-requires : goal.sqrtm_in-answer-requires
sqrtm_in-answer-requires g c =
    let a = c.args in
    let h = shaped (unary a.rows a.columns (g.T.Real.floats a.a.now) (length a.out.now ∷ []) (length a.w.now)) c.ask_sqrtm.result c.ask_sqrtm.ensures c.in-Ok.is in
    record { order = omega (arith, h.small); space = omega (arith, h.room, c.copy_in.auto.w, g.met.T.Real.length_law c.copy_in.new.w) }

pub deliver-requires : goal.deliver-requires
deliver-requires g c =
    let a = c.args in
    let h = shaped (unary a.rows a.columns (g.T.Real.floats a.a.now) (length a.out.now ∷ []) (length a.w.now)) c.ask_sqrtm.result c.ask_sqrtm.ensures c.in-Ok.is in
    (omega (arith, square_le a.rows (omega (arith, h.small)), h.outputs.0), omega (arith, h.room, c.copy_in.auto.w, c.sqrtm_in-answer.auto.w))

pub returns-in-Err : goal.returns-in-Err
unfolding sqrtm
returns-in-Err g c =
    let a = c.args in
    let matrix = g.T.Real.floats a.a.now in
    let call = unary a.rows a.columns matrix (length a.out.now ∷ []) (length a.w.now) in
    let q = c.refused in
    let O = one_refused of_sqrtm call c.ask_sqrtm.result c.ask_sqrtm.ensures a.clears q.result.outcome _ _ (square_root g.T.Real.format a.rows matrix) _ c.in-Err.is q.ensures.outcome_value in
    record {
      one_output_with = O;
      report_value = report_refused _ (root_report g.T.Real.format a.rows matrix) q.result.report q.result.outcome c.in-Err.why O.outcome q.ensures.outcome_value q.ensures.report_value;
    }

pub returns-in-Ok : goal.returns-in-Ok
unfolding sqrtm
returns-in-Ok g c =
    let a = c.args in
    let laws = g.met.T.Real in
    let matrix = g.T.Real.floats a.a.now in
    let lent = g.T.Real.floats a.w.now in
    let call = unary a.rows a.columns matrix (length a.out.now ∷ []) (length a.w.now) in
    let h = shaped call c.ask_sqrtm.result c.ask_sqrtm.ensures c.in-Ok.is in
    let root = c.sqrtm_in-answer in
    let d = c.deliver in
    let long = laws.length_law a.out.now in
    let O = one_done of_sqrtm call c.ask_sqrtm.result c.ask_sqrtm.ensures a.clears d.result.outcome (g.T.Real.floats a.out.now) lent (0 ∷ 1 ∷ 2 ∷ 3 ∷ 4 ∷ 5 ∷ []) a.rows (square_root g.T.Real.format a.rows) matrix
    (g.T.Real.floats d.new.out) (g.T.Real.floats c.copy_in.new.w) (g.T.Real.floats root.new.w) (g.T.Real.floats d.new.w) root.result.outcome
    c.in-Ok.is (late-root g.T.Real.format a.rows matrix) (omega (arith, h.small)) (omega (arith, h.room, laws.length_law a.w.now)) h.long (long ∙ h.outputs.0) refl c.copy_in.ensures root.ensures.replaced (rw (sym long) at d.ensures.delivered) in
    record {
      one_output_with = O;
      report_value = report_delivered _ _ (root_report g.T.Real.format a.rows) root.result.report d.result.report d.result.outcome root.result.outcome a.rows matrix lent (g.T.Real.floats c.copy_in.new.w)
          (omega (arith, square_le a.rows (omega (arith, h.small)), h.room, laws.length_law a.w.now)) h.long c.copy_in.ensures O.outcome root.ensures.replaced.outcome d.ensures.delivered.outcome root.ensures.report_value d.ensures.report_value;
    }
