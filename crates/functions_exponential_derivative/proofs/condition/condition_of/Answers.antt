-- `condition_of` meets its contract. Assumes nothing.
use Prim.Native.Nat.{◌*◌}
use mathlib.Core.Path.{ap, ◌∙◌}
use mathlib.Core.Bool.{cond}
use lib.Ieee.{div, lt}
use Rattle.arithmetic_floats.specs.Float.{+zero, one}
use Rattle.arithmetic_floats.specs.Root.{sqrt_of}
use Rattle.arithmetic_matrices.specs.Norm.{sum_of_squares, frobenius}
use Rattle.functions_definitions.specs.Derivatives.{condition_of}
use Rattle.arithmetic_matrices.proofs.PartLaws.{part_all}
use Rattle.functions_exponential_derivative.proofs.condition.condition_of.Goals as goal

pub returns : goal.returns
unfolding condition_of frobenius
returns g c =
    let n = c.args.n in
    let x = c.sqrt-exponential_norm.ensures.value ∙ ap (sqrt_of g.T.Real.format) (c.sum_of_squares.ensures ∙ ap (sum_of_squares g.T.Real.format (n * n)) (part_all (g.T.Real.floats c.args.x.now) (n * n) (g.met.T.Real.length_law c.args.x.now ∙ c.requires.0))) in
    let d = c.sqrt-derivative_norm.ensures.value ∙ ap (sqrt_of g.T.Real.format) (c.sum_of_squares-2.ensures ∙ ap (sum_of_squares g.T.Real.format (n * n)) (part_all (g.T.Real.floats c.args.d.now) (n * n) (g.met.T.Real.length_law c.args.d.now ∙ c.requires.1))) in
    let ratio = c.ratio_of.ensures ∙ (λ i. cond (lt +zero (x i)) (div g.T.Real.format (d i) (x i)) one) in
    λ i. record { ratio = ratio i; derivative_norm = d i; exponential_norm = x i }
