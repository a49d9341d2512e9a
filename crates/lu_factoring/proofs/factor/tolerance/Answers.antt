-- `tolerance` meets its contract: n is small enough to be a float. Assumes nothing.
use mathlib.Core.Path.{◌∙◌, ap}
use lib.Ieee.{mul}
use Rattle.lu_factoring.specs.Lu.{tolerance}
use Rattle.lu_factoring.proofs.factor.tolerance.Goals as goal

pub returns : goal.returns
unfolding tolerance
returns g c =
    let laws = g.met.T.Real in
    let unit = ap g.T.Real.float c.EPSILON.ensures ∙ laws.epsilon_law in
    laws.mul_law _ _ _ c.mul.ensures ∙ (λ i. mul g.T.Real.format (unit i) (c.of_small.ensures i))
