-- `is_far` meets its contract: the constant is 0.1. Assumes nothing.
use mathlib.Core.Path.{◌≡◌, ◌∙◌}
use lib.Ieee.{Float, of_bits, round, lt}
use Rattle.std.proofs.Common.{rules}
use Rattle.functions_definitions.specs.Logarithm.{is_far, near}
use Rattle.functions_logarithms.proofs.logarithm.is_far.Goals as goal

compared : {a b x y : Float} → a ≡ x → b ≡ y → lt a b ≡ lt x y
compared e h = λ i. lt (e i) (h i)

pub returns : goal.returns
unfolding of_bits round near is_far
returns g c =
    let laws = g.met.T.Real in
    let limit = laws.tenth_law in
    c.lt.ensures ∙ laws.less_law _ _ ∙ compared (search rules) c.norm_1_minus_identity.ensures
