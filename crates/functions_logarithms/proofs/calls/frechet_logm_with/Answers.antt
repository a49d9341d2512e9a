-- `frechet_logm_with` meets its contract. Assumes nothing.
use Rattle.std.specs.Prelude.{Ok}
use Prim.Native.Nat.{◌≤◌}
use mathlib.Core.Path.{◌≡◌, refl, sym, ◌∙◌}
use mathlib.Core.List.{[], ◌∷◌}
use lib.ListN.{length}
use Rattle.arithmetic_questions.specs.Answers.{Question, found}
use Rattle.arithmetic_questions.specs.Questions.{Call, asked, binary, without_exponent, positive, orders_from_two, of_frechet_logm}
use Rattle.arithmetic_matrices.proofs.MatrixLaws.{square_le}
use Rattle.arithmetic_questions.proofs.QuestionLaws.{Accepted, AcceptedDirection, accepted_directed}
use Rattle.arithmetic_questions.proofs.BothLaws.{two_refused, two_done}
use Rattle.arithmetic_questions.proofs.ReportLaws.{report_refused, report_delivered_both}
use Rattle.functions_definitions.specs.Derivatives.{frechet_log_m}
use Rattle.functions_definitions.specs.Calls.{frechet_logm}
use Rattle.functions_definitions.specs.Reports.{frechet_log_report}
use Rattle.functions_definitions.proofs.LateLaws.{late_frechet_logarithm}
use native.Mathlib.Omega.{arith}
use Rattle.functions_logarithms.proofs.calls.frechet_logm_with.Goals as goal

-- what `ask_frechet_logm` accepts
taken : (call : Call) (q : Question) → found q ≡ asked of_frechet_logm call → q ≡ Ok tt → Accepted call × AcceptedDirection call
taken call q h e = accepted_directed without_exponent positive orders_from_two call q h e

pub copy_in-requires : goal.copy_in-requires
copy_in-requires g c =
    let a = c.args in
    let call = binary a.rows a.columns (g.T.Real.floats a.a.now) a.height a.width (g.T.Real.floats a.e.now) (length a.first.now ∷ length a.second.now ∷ []) (length a.w.now) in
    let h = (taken call c.ask_frechet_logm.result c.ask_frechet_logm.ensures c.in-Ok.is).0.shape in
    (omega arith, omega (arith, square_le a.rows (omega (arith, h.small)), h.long, h.room, g.met.T.Real.length_law a.a.now))

pub copy_in-requires-in-Ok : goal.copy_in-requires-in-Ok
copy_in-requires-in-Ok g c =
    let a = c.args in
    let call = binary a.rows a.columns (g.T.Real.floats a.a.now) a.height a.width (g.T.Real.floats a.e.now) (length a.first.now ∷ length a.second.now ∷ []) (length a.w.now) in
    let h = taken call c.ask_frechet_logm.result c.ask_frechet_logm.ensures c.in-Ok.is in
    (omega arith, omega (arith, square_le a.rows (omega (arith, h.0.shape.small)), h.1.shape.long, h.0.shape.room, c.copy_in.auto.w, g.met.T.Real.length_law a.e.now))

pub frechet_logm_in-answer-requires : goal.frechet_logm_in-answer-requires
frechet_logm_in-answer-requires g c =
    let a = c.args in
    let call = binary a.rows a.columns (g.T.Real.floats a.a.now) a.height a.width (g.T.Real.floats a.e.now) (length a.first.now ∷ length a.second.now ∷ []) (length a.w.now) in
    let h = (taken call c.ask_frechet_logm.result c.ask_frechet_logm.ensures c.in-Ok.is).0.shape in
    record { order = omega (arith, h.small); space = omega (arith, h.room, c.copy_in.auto.w, c.copy_in-in-Ok.auto.w, g.met.T.Real.length_law c.copy_in-in-Ok.new.w) }

pub deliver_both-requires : goal.deliver_both-requires
deliver_both-requires g c =
    let a = c.args in
    let call = binary a.rows a.columns (g.T.Real.floats a.a.now) a.height a.width (g.T.Real.floats a.e.now) (length a.first.now ∷ length a.second.now ∷ []) (length a.w.now) in
    let h = (taken call c.ask_frechet_logm.result c.ask_frechet_logm.ensures c.in-Ok.is).0.shape in
    let few = square_le a.rows (omega (arith, h.small)) in
    (omega (arith, few, h.outputs.0), omega (arith, few, h.outputs.1.0), omega (arith, h.room, c.copy_in.auto.w, c.copy_in-in-Ok.auto.w, c.frechet_logm_in-answer.auto.w))

pub returns-in-Err : goal.returns-in-Err
unfolding frechet_logm
returns-in-Err g c =
    let a = c.args in
    let matrix = g.T.Real.floats a.a.now in
    let direction = g.T.Real.floats a.e.now in
    let call = binary a.rows a.columns matrix a.height a.width direction (length a.first.now ∷ length a.second.now ∷ []) (length a.w.now) in
    let no = c.refused in
    let O = two_refused of_frechet_logm call c.ask_frechet_logm.result c.ask_frechet_logm.ensures a.clears no.result.outcome (g.T.Real.floats a.first.now) (g.T.Real.floats a.second.now) (g.T.Real.floats a.w.now) (frechet_log_m g.T.Real.format a.rows matrix direction) _ c.in-Err.is no.ensures.outcome_value in
    record {
      two_outputs_with = O;
      report_value = report_refused _ (frechet_log_report g.T.Real.format a.rows matrix direction) no.result.report no.result.outcome c.in-Err.why O.outcome no.ensures.outcome_value no.ensures.report_value;
    }

pub returns-in-Ok : goal.returns-in-Ok
unfolding frechet_logm
returns-in-Ok g c =
    let a = c.args in
    let laws = g.met.T.Real in
    let f = g.T.Real.format in
    let matrix = g.T.Real.floats a.a.now in
    let direction = g.T.Real.floats a.e.now in
    let lent = g.T.Real.floats a.w.now in
    let call = binary a.rows a.columns matrix a.height a.width direction (length a.first.now ∷ length a.second.now ∷ []) (length a.w.now) in
    let h = taken call c.ask_frechet_logm.result c.ask_frechet_logm.ensures c.in-Ok.is in
    let m = h.0.shape in
    let room : 8192 ≤ length lent = omega (arith, m.room, laws.length_law a.w.now) in
    let i = c.frechet_logm_in-answer in
    let d = c.deliver_both in
    let long = laws.length_law a.first.now in
    let long' = laws.length_law a.second.now in
    let O = two_done of_frechet_logm call c.ask_frechet_logm.result c.ask_frechet_logm.ensures a.clears d.result.outcome (g.T.Real.floats a.first.now) (g.T.Real.floats a.second.now) lent (0 ∷ 1 ∷ 2 ∷ 3 ∷ 5 ∷ 6 ∷ []) a.rows 4 (frechet_log_m f a.rows) matrix direction
    (g.T.Real.floats d.new.first) (g.T.Real.floats d.new.second) (g.T.Real.floats c.copy_in.new.w) (g.T.Real.floats c.copy_in-in-Ok.new.w) (g.T.Real.floats i.new.w) (g.T.Real.floats d.new.w) i.result.outcome
    c.in-Ok.is (late_frechet_logarithm f a.rows matrix direction) (omega (arith, m.small)) room m.long h.1.shape.long (long ∙ m.outputs.0) (long' ∙ m.outputs.1.0) refl (omega arith) refl
    c.copy_in.ensures c.copy_in-in-Ok.ensures i.ensures.replaced_both (rw (sym long, sym long') at d.ensures.delivered_both) in
    record {
      two_outputs_with = O;
      report_value = report_delivered_both _ _ (frechet_log_report f a.rows) i.result.report d.result.report d.result.outcome i.result.outcome a.rows 4 matrix direction lent (g.T.Real.floats c.copy_in.new.w) (g.T.Real.floats c.copy_in-in-Ok.new.w)
          (omega (arith, m.small)) room m.long h.1.shape.long refl (omega arith) c.copy_in.ensures c.copy_in-in-Ok.ensures O.outcome i.ensures.replaced_both.outcome d.ensures.delivered_both.outcome i.ensures.report_value d.ensures.report_value;
    }
