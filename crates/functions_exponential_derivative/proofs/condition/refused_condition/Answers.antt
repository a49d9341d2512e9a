-- `refused_condition` meets its contract. Assumes nothing.
use mathlib.Core.Path.{ap, ◌∙◌}
use Rattle.functions_exponential_derivative.proofs.condition.refused_condition.Goals as goal

pub returns : goal.returns
returns g c =
    let zero = g.met.T.Real.zero_law in
    let ratio = ap g.T.Real.float c.ZERO.ensures ∙ zero in
    let derivative = ap g.T.Real.float c.ZERO-2.ensures ∙ zero in
    let exponential = ap g.T.Real.float c.ZERO-3.ensures ∙ zero in
    record {
      outcome_value = c.refused-answer.ensures.outcome_value;
      exponential_norm_value = (λ i. record { ratio = ratio i; derivative_norm = derivative i; exponential_norm = exponential i });
      report_value = c.refused-answer.ensures.report_value;
    }
