-- `second_logarithm` meets its contract: a law for each outcome of the logarithm. Assumes nothing.
use Rattle.arithmetic_matrices.specs.Product.{add_multiple_m}
use Rattle.arithmetic_matrices.specs.Workspace.{slot}
use Rattle.arithmetic_questions.proofs.ReportLaws.{report_refused}
use Rattle.functions_definitions.specs.Derivatives.{log_step}
use Rattle.functions_definitions.specs.Reports.{log_report}
use Rattle.functions_logarithms.proofs.LogDerivativeLaws.{second_done, second_reported, second_refused}
use Rattle.functions_logarithms.proofs.log_derivative.second_logarithm.Goals as goal

pub returns-in-Ok : goal.returns-in-Ok
returns-in-Ok g c =
    let l = c.logm_in-answer in
    let p = c.place_quotient in
    record {
      replaced_both = second_done g.T.Real.format c.args.n (g.T.Real.floats c.args.w.now) c.requires (g.T.Real.floats c.copy.new.w) (g.T.Real.floats c.accumulate.new.w) (g.T.Real.floats c.copy-2.new.w) (g.T.Real.floats l.new.w) (g.T.Real.float c.log_step.result) l.result.outcome
          c.copy.ensures c.log_step.ensures c.accumulate.ensures c.copy-2.ensures l.ensures.replaced c.in-Ok.field-0 (g.T.Real.floats p.new.w) c.in-Ok.is p.ensures;
      report_value = second_reported g.T.Real.format c.args.n (g.T.Real.floats c.args.w.now) c.requires (g.T.Real.floats c.copy.new.w) (g.T.Real.floats c.accumulate.new.w) (g.T.Real.floats c.copy-2.new.w) (g.T.Real.floats l.new.w) (g.T.Real.float c.log_step.result) l.result.outcome
          c.copy.ensures c.log_step.ensures c.accumulate.ensures c.copy-2.ensures l.ensures.replaced c.in-Ok.field-0 l.result.report (g.T.Real.floats p.new.w) c.in-Ok.is p.ensures l.ensures.report_value;
    }

pub returns-in-Err : goal.returns-in-Err
returns-in-Err g c =
    let n = c.args.n in
    let w = (g.T.Real.floats c.args.w.now) in
    let l = c.logm_in-answer in
    let no = c.refused in
    let why = c.in-Err.why in
    let S = second_refused g.T.Real.format n w c.requires (g.T.Real.floats c.copy.new.w) (g.T.Real.floats c.accumulate.new.w) (g.T.Real.floats c.copy-2.new.w) (g.T.Real.floats l.new.w) (g.T.Real.float c.log_step.result) l.result.outcome
    c.copy.ensures c.log_step.ensures c.accumulate.ensures c.copy-2.ensures l.ensures.replaced why no.result.outcome c.in-Err.is no.ensures.outcome_value in
    record {
      replaced_both = S;
      report_value = report_refused _ (log_report g.T.Real.format n (add_multiple_m g.T.Real.format n (log_step g.T.Real.format) (slot n w 4) (slot n w 5))) no.result.report no.result.outcome why S.outcome no.ensures.outcome_value no.ensures.report_value;
    }
