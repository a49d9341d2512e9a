-- `frechet_logm_in` meets its contract: a law for each outcome of the first logarithm. Assumes nothing.
use native.Mathlib.Omega.{arith}
use Rattle.arithmetic_matrices.specs.Workspace.{slot}
use Rattle.arithmetic_questions.proofs.ReportLaws.{report_refused, steps_few}
use Rattle.functions_definitions.specs.Reports.{frechet_log_report}
use Rattle.functions_definitions.proofs.StepLaws.{log_few}
use Rattle.functions_logarithms.proofs.LogDerivativeLaws.{frechet_follows, frechet_reported, frechet_refused}
use Rattle.functions_logarithms.proofs.log_derivative.frechet_logm_in.Goals as goal

pub beside-requires : goal.beside-requires
beside-requires g c = omega (arith, steps_few _ _ _ 10059 c.logm_in-answer.ensures.report_value (log_few g.T.Real.format _ _), steps_few _ _ _ 10059 c.second_logarithm-second.ensures.report_value (log_few g.T.Real.format _ _))

pub returns-in-Ok : goal.returns-in-Ok
returns-in-Ok g c =
    let l = c.logm_in-answer in
    let d = c.second_logarithm-second in
    let b = c.beside in
    let r = c.answering in
    record {
      replaced_both = rw r.ensures.outcome_value (frechet_follows g.T.Real.format c.args.n (g.T.Real.floats c.args.w.now) c.requires (g.T.Real.floats c.copy.new.w) (g.T.Real.floats l.new.w) l.result.outcome c.copy.ensures l.ensures.replaced c.in-Ok.field-0 d.result.outcome (g.T.Real.floats d.new.w) c.in-Ok.is d.ensures.replaced_both);
      report_value = frechet_reported g.T.Real.format c.args.n (g.T.Real.floats c.args.w.now) c.requires (g.T.Real.floats c.copy.new.w) (g.T.Real.floats l.new.w) l.result.outcome c.copy.ensures l.ensures.replaced c.in-Ok.field-0 d.result.outcome (g.T.Real.floats d.new.w)
          l.result.report d.result.report b.result r.result.report c.in-Ok.is d.ensures.replaced_both l.ensures.report_value d.ensures.report_value b.ensures r.ensures.report_value;
    }

pub returns-in-Err : goal.returns-in-Err
returns-in-Err g c =
    let n = c.args.n in
    let w = (g.T.Real.floats c.args.w.now) in
    let l = c.logm_in-answer in
    let no = c.refused in
    let why = c.in-Err.why in
    let S = frechet_refused g.T.Real.format n w c.requires (g.T.Real.floats c.copy.new.w) (g.T.Real.floats l.new.w) l.result.outcome c.copy.ensures l.ensures.replaced why no.result.outcome c.in-Err.is no.ensures.outcome_value in
    record {
      replaced_both = S;
      report_value = report_refused _ (frechet_log_report g.T.Real.format n (slot n w 0) (slot n w 4)) no.result.report no.result.outcome why S.outcome no.ensures.outcome_value no.ensures.report_value;
    }
