-- `frechet_sqrtm_with` meets its contract. Assumes nothing.
use Rattle.functions_definitions.specs.Derivatives.{frechet_sqrt_m}
use Rattle.functions_definitions.specs.Reports.{frechet_sqrt_report}
use Rattle.functions_definitions.specs.Calls.{frechet_sqrtm}
use Rattle.functions_root_derivatives.proofs.calls.frechet_sqrtm_with.Goals as goal

pub returns : goal.returns
unfolding frechet_sqrtm frechet_sqrt_m frechet_sqrt_report
returns g c = c.root_derivative_with.ensures
