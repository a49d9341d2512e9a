-- `frechet_expm_with` meets its contract. Assumes nothing.
use mathlib.Core.Path.{sym, ◌∙◌}
use mathlib.Core.List.{[], ◌∷◌}
use native.Mathlib.Omega.{arith}
use lib.ListN.{length}
use Rattle.arithmetic_questions.specs.Questions.{binary, without_exponent, anywhere, every_order, of_frechet_expm}
use Rattle.arithmetic_questions.proofs.QuestionLaws.{accepted_directed}
use Rattle.arithmetic_questions.proofs.BothLaws.{two_refused}
use Rattle.functions_definitions.specs.Derivatives.{frechet_exp_m}
use Rattle.functions_definitions.specs.Calls.{frechet_expm}
use Rattle.functions_definitions.specs.Reports.{frechet_exp_report}
use Rattle.arithmetic_questions.proofs.ReportLaws.{report_refused, report_passed}
use Rattle.functions_exponential_derivative.proofs.FrechetLaws.{two_written, written_alone}
use Rattle.functions_definitions.proofs.LateLaws.{late-frechet_exp_m}
use Rattle.functions_definitions.proofs.FirstOutput.{refused_alone, counted}
use Rattle.functions_exponential_derivative.proofs.frechet.frechet_expm_with.Goals as goal

pub frechet_expm_in-answer-requires : goal.frechet_expm_in-answer-requires
frechet_expm_in-answer-requires g c =
    let a = c.args in
    let asked = c.ask_frechet_expm in
    let call = binary a.rows a.columns (g.T.Real.floats a.a.now) a.height a.width (g.T.Real.floats a.e.now) (length a.first.now ∷ length a.second.now ∷ []) (length a.w.now) in
    let (m, d) = accepted_directed without_exponent anywhere every_order call asked.result asked.ensures c.in-Ok.is in
    let s = m.shape in
    let laws = g.met.T.Real in
    record {
      room = record { order = omega (arith, s.small); space = omega (arith, s.room, laws.length_law a.w.now) };
      n_bound = (s.small, sym (laws.length_law a.a.now) ∙ s.long, sym (laws.length_law a.e.now) ∙ d.shape.long, s.outputs.0, s.outputs.1.0);
    }

pub clear_where-requires : goal.clear_where-requires
clear_where-requires g c =
    let a = c.args in
    let asked = c.ask_frechet_expm in
    let call = binary a.rows a.columns (g.T.Real.floats a.a.now) a.height a.width (g.T.Real.floats a.e.now) (length a.first.now ∷ length a.second.now ∷ []) (length a.w.now) in
    let (m, d) = accepted_directed without_exponent anywhere every_order call asked.result asked.ensures c.in-Ok.is in
    omega (arith, m.shape.room, c.frechet_expm_in-answer.auto.w)

pub returns-in-Err : goal.returns-in-Err
unfolding frechet_expm
returns-in-Err g c =
    let a = c.args in
    let asked = c.ask_frechet_expm in
    let call = binary a.rows a.columns (g.T.Real.floats a.a.now) a.height a.width (g.T.Real.floats a.e.now) (length a.first.now ∷ length a.second.now ∷ []) (length a.w.now) in
    let no = c.refused in
    let O = two_refused of_frechet_expm call asked.result asked.ensures a.clears no.result.outcome (g.T.Real.floats a.first.now) (g.T.Real.floats a.second.now) (g.T.Real.floats a.w.now) (frechet_exp_m g.T.Real.format a.rows (g.T.Real.floats a.a.now) (g.T.Real.floats a.e.now)) _ c.in-Err.is no.ensures.outcome_value in
    record {
      two_outputs_with = O;
      first_alone = refused_alone g.T.Real.format a.rows (g.T.Real.floats a.a.now) (g.T.Real.floats a.e.now) (g.T.Real.floats a.first.now) no.result.outcome c.in-Err.why no.ensures.outcome_value;
      report_value = report_refused _ (frechet_exp_report g.T.Real.format a.rows (g.T.Real.floats a.a.now) (g.T.Real.floats a.e.now)) no.result.report no.result.outcome c.in-Err.why O.outcome no.ensures.outcome_value no.ensures.report_value;
    }

pub returns-in-Ok : goal.returns-in-Ok
unfolding frechet_expm
returns-in-Ok g c =
    let a = c.args in
    let asked = c.ask_frechet_expm in
    let call = binary a.rows a.columns (g.T.Real.floats a.a.now) a.height a.width (g.T.Real.floats a.e.now) (length a.first.now ∷ length a.second.now ∷ []) (length a.w.now) in
    let told = c.in-Ok.is in
    let (m, d) = accepted_directed without_exponent anywhere every_order call asked.result asked.ensures told in
    let x = frechet_exp_m g.T.Real.format a.rows (g.T.Real.floats a.a.now) (g.T.Real.floats a.e.now) in
    let f = c.frechet_expm_in-answer in
    let clear1 = c.clear_where in
    record {
      two_outputs_with = two_written of_frechet_expm call asked.result asked.ensures a.clears f.result.outcome x (g.T.Real.floats a.first.now) (g.T.Real.floats a.second.now) (g.T.Real.floats a.w.now) (g.T.Real.floats f.new.first) (g.T.Real.floats f.new.second) (g.T.Real.floats f.new.w) (g.T.Real.floats clear1.new.w) told
          (late-frechet_exp_m g.T.Real.format a.rows (g.T.Real.floats a.a.now) (g.T.Real.floats a.e.now)) (omega (arith, m.shape.room, g.met.T.Real.length_law a.w.now)) f.ensures.written clear1.ensures;
      first_alone = written_alone g.T.Real.format a.rows (g.T.Real.floats a.a.now) (g.T.Real.floats a.e.now) (g.T.Real.floats a.first.now) (g.T.Real.floats f.new.first) (g.T.Real.floats a.second.now) (g.T.Real.floats f.new.second) (g.T.Real.floats a.w.now) (g.T.Real.floats f.new.w) f.result.outcome (counted g.T.Real.format a.rows m.shape.small) f.ensures.written;
      report_value = report_passed of_frechet_expm call asked.result asked.ensures x _ f.result.report told f.ensures.report_value;
    }
