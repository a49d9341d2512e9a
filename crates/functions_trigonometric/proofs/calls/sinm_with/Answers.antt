-- `sinm_with` meets its contract. Assumes nothing.
use mathlib.Core.Path.{refl, sym, ◌∙◌}
use mathlib.Core.List.{[], ◌∷◌}
use lib.ListN.{length}
use Rattle.arithmetic_questions.specs.Questions.{unary, of_sinm}
use Rattle.arithmetic_matrices.proofs.MatrixLaws.{square_le}
use Rattle.arithmetic_questions.proofs.OutputLaws.{one_refused, one_done}
use Rattle.arithmetic_questions.proofs.ReportLaws.{report_refused, report_delivered}
use Rattle.arithmetic_questions.specs.Reports.{nothing}
use Rattle.functions_definitions.specs.Trigonometric.{sin_m}
use Rattle.functions_definitions.specs.Calls.{sinm}
use Rattle.functions_trigonometric.proofs.SeriesLaws.{sine_late, shaped}
use native.Mathlib.Omega.{arith}
use Rattle.functions_trigonometric.proofs.calls.sinm_with.Goals as goal

pub copy_in-requires : goal.copy_in-requires
copy_in-requires g c =
    let a = c.args in
    let h = shaped (unary a.rows a.columns (g.T.Real.floats a.a.now) (length a.out.now ∷ []) (length a.w.now)) c.ask_expm.result c.ask_expm.ensures c.in-Ok.is in
    (omega arith, omega (arith, square_le a.rows (omega (arith, h.small)), h.long, h.room, g.met.T.Real.length_law a.a.now))

pub sinm_in-answer-requires : goal.sinm_in-answer-requires
sinm_in-answer-requires g c =
    let a = c.args in
    let h = shaped (unary a.rows a.columns (g.T.Real.floats a.a.now) (length a.out.now ∷ []) (length a.w.now)) c.ask_expm.result c.ask_expm.ensures c.in-Ok.is in
    record { order = omega (arith, h.small); space = omega (arith, h.room, c.copy_in.auto.w, g.met.T.Real.length_law c.copy_in.new.w) }

pub deliver-requires : goal.deliver-requires
deliver-requires g c =
    let a = c.args in
    let h = shaped (unary a.rows a.columns (g.T.Real.floats a.a.now) (length a.out.now ∷ []) (length a.w.now)) c.ask_expm.result c.ask_expm.ensures c.in-Ok.is in
    (omega (arith, square_le a.rows (omega (arith, h.small)), h.outputs.0), omega (arith, h.room, c.copy_in.auto.w, c.sinm_in-answer.auto.w))

pub returns-in-Err : goal.returns-in-Err
unfolding sinm
returns-in-Err g c =
    let a = c.args in
    let matrix = g.T.Real.floats a.a.now in
    let call = unary a.rows a.columns matrix (length a.out.now ∷ []) (length a.w.now) in
    let no = c.refused in
    let O = one_refused of_sinm call c.ask_expm.result c.ask_expm.ensures a.clears no.result.outcome (g.T.Real.floats a.out.now) (g.T.Real.floats a.w.now) (sin_m g.T.Real.format a.rows matrix) _ c.in-Err.is no.ensures.outcome_value in
    record {
      one_output_with = O;
      report_value = report_refused _ nothing no.result.report no.result.outcome c.in-Err.why O.outcome no.ensures.outcome_value no.ensures.report_value;
    }

pub returns-in-Ok : goal.returns-in-Ok
unfolding sinm
returns-in-Ok g c =
    let a = c.args in
    let laws = g.met.T.Real in
    let matrix = g.T.Real.floats a.a.now in
    let lent = g.T.Real.floats a.w.now in
    let call = unary a.rows a.columns matrix (length a.out.now ∷ []) (length a.w.now) in
    let h = shaped call c.ask_expm.result c.ask_expm.ensures c.in-Ok.is in
    let x = c.sinm_in-answer in
    let d = c.deliver in
    let long = laws.length_law a.out.now in
    let O = one_done of_sinm call c.ask_expm.result c.ask_expm.ensures a.clears d.result.outcome (g.T.Real.floats a.out.now) lent (0 ∷ 1 ∷ 2 ∷ 3 ∷ 4 ∷ 5 ∷ []) a.rows (sin_m g.T.Real.format a.rows) matrix
    (g.T.Real.floats d.new.out) (g.T.Real.floats c.copy_in.new.w) (g.T.Real.floats x.new.w) (g.T.Real.floats d.new.w) x.result.outcome
    c.in-Ok.is (sine_late g.T.Real.format a.rows matrix) (omega (arith, h.small)) (omega (arith, h.room, laws.length_law a.w.now)) h.long (long ∙ h.outputs.0) refl c.copy_in.ensures x.ensures.replaced (rw (sym long) at d.ensures.delivered) in
    record {
      one_output_with = O;
      report_value = report_delivered _ _ (λ a. nothing) x.result.report d.result.report d.result.outcome x.result.outcome a.rows matrix lent (g.T.Real.floats c.copy_in.new.w)
          (omega (arith, square_le a.rows (omega (arith, h.small)), h.room, laws.length_law a.w.now)) h.long c.copy_in.ensures O.outcome x.ensures.replaced.outcome d.ensures.delivered.outcome x.ensures.report_value d.ensures.report_value;
    }
