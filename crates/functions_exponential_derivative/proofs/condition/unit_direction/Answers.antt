-- `unit_direction` meets its contract. Assumes nothing.
use mathlib.Core.Path.{ap, ◌∙◌}
use native.Mathlib.Omega.{arith}
use lib.Dec.{lit<}
use lib.Ieee.{Float}
use Rattle.arithmetic_matrices.specs.Product.{diagonal_m}
use Rattle.arithmetic_matrices.specs.Workspace.{store}
use Rattle.arithmetic_matrices.proofs.MatrixLaws.{square_le}
use Rattle.functions_definitions.specs.Derivatives.{unit_direction}
use Rattle.functions_exponential.proofs.ExponentialLaws.{counts}
use Rattle.functions_exponential_derivative.proofs.ConditionLaws.{unit_number, unit_read}
use Rattle.functions_exponential_derivative.proofs.condition.unit_direction.Goals as goal

pub copy_out-requires : goal.copy_out-requires
copy_out-requires g c = (lit< tt, omega (arith, square_le c.args.n c.requires.room.order, c.requires.room.space, c.requires.out_len, c.diagonal.auto.w, g.met.T.Real.length_law c.args.w.now))

pub of_small-requires : goal.of_small-requires
of_small-requires g c = omega (arith, c.requires.room.order, counts g.T.Real.format)

pub returns : goal.returns
unfolding unit_direction
returns g c =
    let n = c.args.n in
    let w = (g.T.Real.floats c.args.w.now) in
    let laws = g.met.T.Real in
    let one = ap g.T.Real.float c.ONE.ensures ∙ laws.one_law in
    let number = laws.div_law _ _ _ c.div.ensures ∙ unit_number g.T.Real.format n _ _ _ c.requires.room.order one c.of_small.ensures c.sqrt.ensures.value in
    let stored = c.diagonal.ensures ∙ ap (λ (x : Float). store w 0 (diagonal_m n x)) number in
    record {
      out_after = unit_read _ n w _ _ c.requires.room c.requires.out_len stored c.copy_out.ensures;
      w_after = stored;
    }
