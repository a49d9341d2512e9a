-- `log_step` meets its contract. Assumes nothing.
use mathlib.Core.Path.{ap, ◌∙◌}
use Rattle.arithmetic_floats.specs.Root.{sqrt_of}
use Rattle.functions_definitions.specs.Derivatives.{log_step}
use Rattle.functions_logarithms.proofs.log_derivative.log_step.Goals as goal

pub returns : goal.returns
unfolding log_step
returns g c = c.sqrt.ensures.value ∙ ap (sqrt_of g.T.Real.format) (ap g.T.Real.float c.EPSILON.ensures ∙ g.met.T.Real.epsilon_law)
