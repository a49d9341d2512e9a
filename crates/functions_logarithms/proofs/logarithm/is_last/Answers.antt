-- `is_last` meets its contract. Assumes nothing.
use native.Mathlib.Omega.{arith}
use mathlib.Core.Path.{ap, ◌∙◌}
use lib.Ieee.{le, mul}
use Rattle.arithmetic_floats.specs.Root.{sqrt_of}
use Rattle.arithmetic_matrices.specs.Norm.{frobenius}
use Rattle.arithmetic_matrices.specs.Workspace.{slot}
use Rattle.arithmetic_matrices.proofs.MatrixLaws.{square_le}
use Rattle.functions_logarithms.proofs.logarithm.is_last.Goals as goal

pub overflow_mul-n : goal.overflow_mul-n
overflow_mul-n g c = omega (arith, square_le c.args.n c.requires.order)

pub sums_of_squares-sums-requires : goal.sums_of_squares-sums-requires
sums_of_squares-sums-requires g c = omega (arith, square_le c.args.n c.requires.order, c.requires.space, g.met.T.Real.length_law c.args.w.now)

pub returns : goal.returns
unfolding frobenius slot
returns g c =
    let laws = g.met.T.Real in
    let f = g.T.Real.format in
    let s = c.sums_of_squares-sums.ensures in
    let epsilon = ap g.T.Real.float c.EPSILON.ensures ∙ laws.epsilon_law in
    let high = laws.mul_law _ _ _ c.mul.ensures ∙ (λ i. mul f (epsilon i) ((c.sqrt-2.ensures.value ∙ ap (sqrt_of f) s.1) i)) in
    c.le.ensures ∙ laws.at_most_law _ _ ∙ (λ i. le ((c.sqrt.ensures.value ∙ ap (sqrt_of f) s.0) i) (high i))
