-- `powm_with` meets its contract. Assumes nothing.
use Rattle.std.specs.Prelude.{Ok}
use mathlib.Core.Path.{◌≡◌, refl, sym, ◌∙◌}
use mathlib.Core.List.{List, [], ◌∷◌}
use lib.ListN.{length}
use lib.Ieee.{Float}
use Rattle.arithmetic_questions.specs.Answers.{Question, found}
use Rattle.arithmetic_questions.specs.Questions.{Call, asked, powered, with_exponent, anywhere, orders_from_two, of_powm}
use Rattle.arithmetic_matrices.proofs.MatrixLaws.{square_le}
use Rattle.arithmetic_questions.proofs.QuestionLaws.{Shaped, accepted}
use Rattle.arithmetic_questions.proofs.OutputLaws.{one_refused, one_done}
use Rattle.arithmetic_questions.proofs.ReportLaws.{report_refused, report_delivered}
use Rattle.functions_definitions.specs.Reports.{power_report}
use Rattle.functions_definitions.specs.Powers.{power_m}
use Rattle.functions_definitions.specs.Calls.{powm}
use Rattle.functions_definitions.proofs.LateLaws.{late-power}
use native.Mathlib.Omega.{arith}
use Rattle.functions_powers.proofs.calls.powm_with.Goals as goal

-- what `ask_powm` accepts has the shape of a call
shaped : (call : Call) (q : Question) → found q ≡ asked of_powm call → q ≡ Ok tt → Shaped call
shaped call q h e = (accepted with_exponent anywhere orders_from_two call q h e).shape

pub copy_in-requires : goal.copy_in-requires
copy_in-requires g c =
    let a = c.args in
    let h = shaped (powered a.rows a.columns (g.T.Real.floats a.a.now) (g.T.Real.float a.p) (length a.out.now ∷ []) (length a.w.now)) c.ask_powm.result c.ask_powm.ensures c.in-Ok.is in
    (omega arith, omega (arith, square_le a.rows (omega (arith, h.small)), h.long, h.room, g.met.T.Real.length_law a.a.now))

pub powm_in-answer-requires : goal.powm_in-answer-requires
powm_in-answer-requires g c =
    let a = c.args in
    let h = shaped (powered a.rows a.columns (g.T.Real.floats a.a.now) (g.T.Real.float a.p) (length a.out.now ∷ []) (length a.w.now)) c.ask_powm.result c.ask_powm.ensures c.in-Ok.is in
    record { order = omega (arith, h.small); space = omega (arith, h.room, c.copy_in.auto.w, g.met.T.Real.length_law c.copy_in.new.w) }

pub deliver-requires : goal.deliver-requires
deliver-requires g c =
    let a = c.args in
    let h = shaped (powered a.rows a.columns (g.T.Real.floats a.a.now) (g.T.Real.float a.p) (length a.out.now ∷ []) (length a.w.now)) c.ask_powm.result c.ask_powm.ensures c.in-Ok.is in
    (omega (arith, square_le a.rows (omega (arith, h.small)), h.outputs.0), omega (arith, h.room, c.copy_in.auto.w, c.powm_in-answer.auto.w))

pub returns-in-Err : goal.returns-in-Err
unfolding powm
returns-in-Err g c =
    let a = c.args in
    let matrix = g.T.Real.floats a.a.now in
    let p = g.T.Real.float a.p in
    let call = powered a.rows a.columns matrix p (length a.out.now ∷ []) (length a.w.now) in
    let no = c.refused in
    let O = one_refused of_powm call c.ask_powm.result c.ask_powm.ensures a.clears no.result.outcome (g.T.Real.floats a.out.now) (g.T.Real.floats a.w.now) (power_m g.T.Real.format a.rows matrix p) _ c.in-Err.is no.ensures.outcome_value in
    record {
      one_output_with = O;
      report_value = report_refused _ (power_report g.T.Real.format a.rows matrix p) no.result.report no.result.outcome c.in-Err.why O.outcome no.ensures.outcome_value no.ensures.report_value;
    }

pub returns-in-Ok : goal.returns-in-Ok
unfolding powm
returns-in-Ok g c =
    let a = c.args in
    let laws = g.met.T.Real in
    let f = g.T.Real.format in
    let matrix = g.T.Real.floats a.a.now in
    let lent = g.T.Real.floats a.w.now in
    let p = g.T.Real.float a.p in
    let call = powered a.rows a.columns matrix p (length a.out.now ∷ []) (length a.w.now) in
    let h = shaped call c.ask_powm.result c.ask_powm.ensures c.in-Ok.is in
    let x = c.powm_in-answer in
    let d = c.deliver in
    let long = laws.length_law a.out.now in
    let O = one_done of_powm call c.ask_powm.result c.ask_powm.ensures a.clears d.result.outcome (g.T.Real.floats a.out.now) lent (0 ∷ 1 ∷ 2 ∷ 3 ∷ 4 ∷ 5 ∷ []) a.rows (λ (m : List Float). power_m f a.rows m p) matrix
    (g.T.Real.floats d.new.out) (g.T.Real.floats c.copy_in.new.w) (g.T.Real.floats x.new.w) (g.T.Real.floats d.new.w) x.result.outcome
    c.in-Ok.is (late-power f a.rows matrix p) (omega (arith, h.small)) (omega (arith, h.room, laws.length_law a.w.now)) h.long (long ∙ h.outputs.0) refl c.copy_in.ensures x.ensures.replaced (rw (sym long) at d.ensures.delivered) in
    record {
      one_output_with = O;
      report_value = report_delivered _ _ (λ (m : List Float). power_report f a.rows m p) x.result.report d.result.report d.result.outcome x.result.outcome a.rows matrix lent (g.T.Real.floats c.copy_in.new.w)
          (omega (arith, square_le a.rows (omega (arith, h.small)), h.room, laws.length_law a.w.now)) h.long c.copy_in.ensures O.outcome x.ensures.replaced.outcome d.ensures.delivered.outcome x.ensures.report_value d.ensures.report_value;
    }
