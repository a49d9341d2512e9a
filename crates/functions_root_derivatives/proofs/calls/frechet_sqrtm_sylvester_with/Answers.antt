-- `frechet_sqrtm_sylvester_with` meets its contract. Assumes nothing.
use Rattle.functions_definitions.specs.Derivatives.{frechet_sqrt_sylvester_m}
use Rattle.functions_definitions.specs.Reports.{frechet_sqrt_sylvester_report}
use Rattle.functions_definitions.specs.Calls.{frechet_sqrtm_sylvester}
use Rattle.functions_root_derivatives.proofs.calls.frechet_sqrtm_sylvester_with.Goals as goal

pub returns : goal.returns
unfolding frechet_sqrtm_sylvester frechet_sqrt_sylvester_m frechet_sqrt_sylvester_report
returns g c = c.root_derivative_with.ensures
