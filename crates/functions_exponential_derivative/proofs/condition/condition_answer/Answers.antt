-- `condition_answer` meets its contract. Assumes nothing.

use Rattle.arithmetic_matrices.specs.Norm.{frobenius}
use Rattle.functions_definitions.specs.Derivatives.{condition_of}
use Rattle.functions_exponential_derivative.proofs.ConditionLaws.{answered_done, answered_none, reports_done, reports_none}
use Rattle.functions_exponential_derivative.proofs.condition.condition_answer.Goals as goal

pub returns-in-Ok : goal.returns-in-Ok
returns-in-Ok g c =
    let a = c.args in
    let k = c.condition_of-condition in
    let t = c.in-Ok.is in
    record {
      conditioned = answered_done (condition_of g.T.Real.format (frobenius g.T.Real.format a.n (g.T.Real.floats a.x.now)) (frobenius g.T.Real.format a.n (g.T.Real.floats a.d.now))) _ a.answer.outcome _ t k.ensures;
      report_value = reports_done a.answer.report a.answer.outcome _ t;
    }

pub returns-in-Err : goal.returns-in-Err
returns-in-Err g c =
    let a = c.args in
    let k = c.refused_condition in
    let t = c.in-Err.is in
    record {
      conditioned = answered_none (condition_of g.T.Real.format (frobenius g.T.Real.format a.n (g.T.Real.floats a.x.now)) (frobenius g.T.Real.format a.n (g.T.Real.floats a.d.now))) _ a.answer.outcome k.result.outcome _ t k.ensures.outcome_value k.ensures.exponential_norm_value;
      report_value = reports_none a.answer.report k.result.report a.answer.outcome _ t k.ensures.report_value;
    }
