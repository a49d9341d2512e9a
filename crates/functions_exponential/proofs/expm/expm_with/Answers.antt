-- `expm_with` meets its contract. Assumes nothing.
use Prim.Native.Nat.{◌≤◌}
use mathlib.Core.Path.{refl, sym, ◌∙◌}
use mathlib.Core.List.{[], ◌∷◌}
use native.Mathlib.Omega.{arith}
use lib.Dec.{lit<}
use lib.ListN.{length}
use Rattle.arithmetic_questions.specs.Questions.{unary, without_exponent, anywhere, orders_from_two, of_expm}
use Rattle.arithmetic_matrices.proofs.MatrixLaws.{square_le}
use Rattle.arithmetic_questions.proofs.QuestionLaws.{accepted}
use Rattle.arithmetic_questions.proofs.OutputLaws.{one_refused, one_done}
use Rattle.functions_definitions.specs.Powers.{exp_m}
use Rattle.functions_definitions.specs.Calls.{expm}
use Rattle.functions_definitions.specs.Reports.{exp_report}
use Rattle.arithmetic_questions.proofs.ReportLaws.{report_refused, report_delivered}
use Rattle.functions_definitions.proofs.LateLaws.{late-exp_m}
use Rattle.functions_exponential.proofs.expm.expm_with.Goals as goal

pub copy_in-requires : goal.copy_in-requires
copy_in-requires g c =
    let a = c.args in
    let asked = c.ask_expm in
    let call = unary a.rows a.columns (g.T.Real.floats a.a.now) (length a.out.now ∷ []) (length a.w.now) in
    let s = (accepted without_exponent anywhere orders_from_two call asked.result asked.ensures c.in-Ok.is).shape in
    (lit< tt, omega (arith, square_le a.rows (omega (arith, s.small)), s.long, s.room, g.met.T.Real.length_law a.a.now))

pub expm_in-answer-requires : goal.expm_in-answer-requires
expm_in-answer-requires g c =
    let a = c.args in
    let asked = c.ask_expm in
    let call = unary a.rows a.columns (g.T.Real.floats a.a.now) (length a.out.now ∷ []) (length a.w.now) in
    let s = (accepted without_exponent anywhere orders_from_two call asked.result asked.ensures c.in-Ok.is).shape in
    record { order = omega (arith, s.small); space = omega (arith, s.room, c.copy_in.auto.w, g.met.T.Real.length_law c.copy_in.new.w) }

pub deliver-requires : goal.deliver-requires
deliver-requires g c =
    let a = c.args in
    let asked = c.ask_expm in
    let call = unary a.rows a.columns (g.T.Real.floats a.a.now) (length a.out.now ∷ []) (length a.w.now) in
    let s = (accepted without_exponent anywhere orders_from_two call asked.result asked.ensures c.in-Ok.is).shape in
    (omega (arith, square_le a.rows (omega (arith, s.small)), s.outputs.0), omega (arith, s.room, c.copy_in.auto.w, c.expm_in-answer.auto.w))

pub returns-in-Err : goal.returns-in-Err
unfolding expm
returns-in-Err g c =
    let a = c.args in
    let asked = c.ask_expm in
    let call = unary a.rows a.columns (g.T.Real.floats a.a.now) (length a.out.now ∷ []) (length a.w.now) in
    let no = c.refused in
    let O = one_refused of_expm call asked.result asked.ensures a.clears no.result.outcome (g.T.Real.floats a.out.now) (g.T.Real.floats a.w.now) (exp_m g.T.Real.format a.rows (g.T.Real.floats a.a.now)) _ c.in-Err.is no.ensures.outcome_value in
    record {
      one_output_with = O;
      report_value = report_refused _ (exp_report g.T.Real.format a.rows (g.T.Real.floats a.a.now)) no.result.report no.result.outcome c.in-Err.why O.outcome no.ensures.outcome_value no.ensures.report_value;
    }

pub returns-in-Ok : goal.returns-in-Ok
unfolding expm
returns-in-Ok g c =
    let a = c.args in
    let asked = c.ask_expm in
    let call = unary a.rows a.columns (g.T.Real.floats a.a.now) (length a.out.now ∷ []) (length a.w.now) in
    let s = (accepted without_exponent anywhere orders_from_two call asked.result asked.ensures c.in-Ok.is).shape in
    let laws = g.met.T.Real in
    let room : 8192 ≤ length (g.T.Real.floats a.w.now) = omega (arith, s.room, laws.length_law a.w.now) in
    let copy1 = c.copy_in in
    let x = c.expm_in-answer in
    let d = c.deliver in
    let O = one_done of_expm call asked.result asked.ensures a.clears d.result.outcome (g.T.Real.floats a.out.now) (g.T.Real.floats a.w.now) (0 ∷ 1 ∷ 2 ∷ 3 ∷ 4 ∷ 5 ∷ []) a.rows (exp_m g.T.Real.format a.rows) (g.T.Real.floats a.a.now) (g.T.Real.floats d.new.out) (g.T.Real.floats copy1.new.w) (g.T.Real.floats x.new.w) (g.T.Real.floats d.new.w)
    x.result.outcome c.in-Ok.is (late-exp_m g.T.Real.format a.rows (g.T.Real.floats a.a.now)) (omega (arith, s.small)) room s.long (laws.length_law a.out.now ∙ s.outputs.0) refl copy1.ensures x.ensures.replaced (rw (sym (laws.length_law a.out.now)) at d.ensures.delivered) in
    record {
      one_output_with = O;
      report_value = report_delivered _ _ (exp_report g.T.Real.format a.rows) x.result.report d.result.report d.result.outcome x.result.outcome a.rows (g.T.Real.floats a.a.now) (g.T.Real.floats a.w.now) (g.T.Real.floats copy1.new.w) (omega (arith, square_le a.rows (omega (arith, s.small)), room)) s.long copy1.ensures
          O.outcome x.ensures.replaced.outcome d.ensures.delivered.outcome x.ensures.report_value d.ensures.report_value;
    }
