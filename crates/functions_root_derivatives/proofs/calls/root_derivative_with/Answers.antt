-- `root_derivative_with` meets its contract. Assumes nothing.
use Rattle.std.specs.Prelude.{Ok}
use native.Mathlib.Nat.{mul-le-mul}
use Prim.Native.Nat.{◌≤◌}
use mathlib.Core.Path.{◌≡◌, refl, sym, ◌∙◌}
use mathlib.Core.List.{[], ◌∷◌}
use lib.ListN.{length}
use Rattle.arithmetic_questions.specs.Answers.{Question, found}
use Rattle.arithmetic_questions.specs.Questions.{Call, asked, binary, without_exponent, nonnegative, every_order, of_frechet_sqrtm}
use Rattle.arithmetic_matrices.proofs.MatrixLaws.{square_le}
use Rattle.arithmetic_questions.proofs.QuestionLaws.{Accepted, AcceptedDirection, accepted_directed}
use Rattle.arithmetic_questions.proofs.BothLaws.{two_refused, two_done}
use Rattle.arithmetic_questions.proofs.ReportLaws.{report_refused, report_delivered_both}
use Rattle.functions_definitions.specs.Derivatives.{root_with_derivative}
use Rattle.functions_definitions.specs.Reports.{root_with_derivative_report}
use Rattle.functions_root_derivatives.specs.Kernels.{second_of}
use Rattle.functions_root_derivatives.proofs.RootDerivativeLaws.{both_slots}
use Rattle.functions_definitions.proofs.LateLaws.{late-root_derivative}
use native.Mathlib.Omega.{arith}
use Rattle.functions_root_derivatives.proofs.calls.root_derivative_with.Goals as goal

-- what `ask_frechet_sqrtm` accepts
taken : (call : Call) (q : Question) → found q ≡ asked of_frechet_sqrtm call → q ≡ Ok tt → Accepted call × AcceptedDirection call
taken call q h e = accepted_directed without_exponent nonnegative every_order call q h e

pub copy_in-requires : goal.copy_in-requires
copy_in-requires g c =
    let a = c.args in
    let call = binary a.rows a.columns (g.T.Real.floats a.a.now) a.height a.width (g.T.Real.floats a.e.now) (length a.first.now ∷ length a.second.now ∷ []) (length a.w.now) in
    let h = (taken call c.ask_frechet_sqrtm.result c.ask_frechet_sqrtm.ensures c.in-Ok.is).0.shape in
    (omega arith, omega (arith, square_le a.rows (omega (arith, h.small)), h.long, h.room, g.met.T.Real.length_law a.a.now))

pub copy_in-requires-in-Ok : goal.copy_in-requires-in-Ok
copy_in-requires-in-Ok g c =
    let a = c.args in
    let call = binary a.rows a.columns (g.T.Real.floats a.a.now) a.height a.width (g.T.Real.floats a.e.now) (length a.first.now ∷ length a.second.now ∷ []) (length a.w.now) in
    let h = taken call c.ask_frechet_sqrtm.result c.ask_frechet_sqrtm.ensures c.in-Ok.is in
    (omega arith, omega (arith, square_le a.rows (omega (arith, h.0.shape.small)), h.1.shape.long, h.0.shape.room, c.copy_in.auto.w, g.met.T.Real.length_law a.e.now))

pub root_derivative_in-answer-requires : goal.root_derivative_in-answer-requires
root_derivative_in-answer-requires g c =
    let a = c.args in
    let call = binary a.rows a.columns (g.T.Real.floats a.a.now) a.height a.width (g.T.Real.floats a.e.now) (length a.first.now ∷ length a.second.now ∷ []) (length a.w.now) in
    let h = (taken call c.ask_frechet_sqrtm.result c.ask_frechet_sqrtm.ensures c.in-Ok.is).0.shape in
    record {
      room = record { order = omega (arith, h.small); space = omega (arith, h.room, c.copy_in.auto.w, c.copy_in-in-Ok.auto.w, g.met.T.Real.length_law c.copy_in-in-Ok.new.w) };
      n_bound = (h.small, mul-le-mul {n₁ = a.rows} {m₁ = a.rows} {n₂ = 8} {m₂ = 8} h.small h.small);
    }

pub deliver_both-requires : goal.deliver_both-requires
deliver_both-requires g c =
    let a = c.args in
    let call = binary a.rows a.columns (g.T.Real.floats a.a.now) a.height a.width (g.T.Real.floats a.e.now) (length a.first.now ∷ length a.second.now ∷ []) (length a.w.now) in
    let h = (taken call c.ask_frechet_sqrtm.result c.ask_frechet_sqrtm.ensures c.in-Ok.is).0.shape in
    let few = square_le a.rows (omega (arith, h.small)) in
    (omega (arith, few, h.outputs.0), omega (arith, few, h.outputs.1.0), omega (arith, h.room, c.copy_in.auto.w, c.copy_in-in-Ok.auto.w, c.root_derivative_in-answer.auto.w))

pub returns-in-Err : goal.returns-in-Err
returns-in-Err g c =
    let a = c.args in
    let matrix = g.T.Real.floats a.a.now in
    let direction = g.T.Real.floats a.e.now in
    let call = binary a.rows a.columns matrix a.height a.width direction (length a.first.now ∷ length a.second.now ∷ []) (length a.w.now) in
    let second = second_of a.transposed a.rows in
    let q = c.refused in
    let O = two_refused of_frechet_sqrtm call c.ask_frechet_sqrtm.result c.ask_frechet_sqrtm.ensures a.clears q.result.outcome _ _ _ (root_with_derivative g.T.Real.format a.rows second matrix direction) _ c.in-Err.is q.ensures.outcome_value in
    record {
      two_outputs_with = O;
      report_value = report_refused _ (root_with_derivative_report g.T.Real.format a.rows second matrix) q.result.report q.result.outcome c.in-Err.why O.outcome q.ensures.outcome_value q.ensures.report_value;
    }

pub returns-in-Ok : goal.returns-in-Ok
returns-in-Ok g c =
    let a = c.args in
    let laws = g.met.T.Real in
    let f = g.T.Real.format in
    let matrix = g.T.Real.floats a.a.now in
    let direction = g.T.Real.floats a.e.now in
    let lent = g.T.Real.floats a.w.now in
    let call = binary a.rows a.columns matrix a.height a.width direction (length a.first.now ∷ length a.second.now ∷ []) (length a.w.now) in
    let second = second_of a.transposed a.rows in
    let h = taken call c.ask_frechet_sqrtm.result c.ask_frechet_sqrtm.ensures c.in-Ok.is in
    let m = h.0.shape in
    let room : 8192 ≤ length lent = omega (arith, m.room, laws.length_law a.w.now) in
    let root = c.root_derivative_in-answer in
    let d = c.deliver_both in
    let long = laws.length_law a.first.now in
    let long' = laws.length_law a.second.now in
    let O = two_done of_frechet_sqrtm call c.ask_frechet_sqrtm.result c.ask_frechet_sqrtm.ensures a.clears d.result.outcome (g.T.Real.floats a.first.now) (g.T.Real.floats a.second.now) lent both_slots a.rows 6 (root_with_derivative f a.rows second) matrix direction
    (g.T.Real.floats d.new.first) (g.T.Real.floats d.new.second) (g.T.Real.floats c.copy_in.new.w) (g.T.Real.floats c.copy_in-in-Ok.new.w) (g.T.Real.floats root.new.w) (g.T.Real.floats d.new.w) root.result.outcome
    c.in-Ok.is (late-root_derivative f a.rows second matrix direction) (omega (arith, m.small)) room m.long h.1.shape.long (long ∙ m.outputs.0) (long' ∙ m.outputs.1.0) refl (omega arith) refl
    c.copy_in.ensures c.copy_in-in-Ok.ensures root.ensures.replaced_both (rw (sym long, sym long') at d.ensures.delivered_both) in
    record {
      two_outputs_with = O;
      report_value = report_delivered_both _ _ (λ x _. root_with_derivative_report f a.rows second x) root.result.report d.result.report d.result.outcome root.result.outcome a.rows 6 matrix direction lent (g.T.Real.floats c.copy_in.new.w) (g.T.Real.floats c.copy_in-in-Ok.new.w)
          (omega (arith, m.small)) room m.long h.1.shape.long refl (omega arith) c.copy_in.ensures c.copy_in-in-Ok.ensures O.outcome root.ensures.replaced_both.outcome d.ensures.delivered_both.outcome root.ensures.report_value d.ensures.report_value;
    }
