-- `copy_quarters` meets its contract. Assumes nothing.
use Prim.Native.Nat.{◌+◌, ◌*◌}
use mathlib.Core.Path.{ap, ◌∙◌}
use native.Mathlib.Omega.{arith}
use Rattle.arithmetic_matrices.specs.Workspace.{slot}
use Rattle.arithmetic_matrices.proofs.MatrixLaws.{square_le}
use Rattle.functions_definitions.specs.Exponential.{quarter}
use Rattle.arithmetic_matrices.proofs.PartLaws.{take_part}
use Rattle.functions_exponential_derivative.proofs.frechet.copy_quarters.Goals as goal

pub returns : goal.returns
unfolding slot
returns g c =
    let n = c.args.n in
    let laws = g.met.T.Real in
    let front = laws.take_law _ _ ∙ take_part (g.T.Real.floats c.args.w.now) 0 ((n + n) * (n + n)) (omega (arith, square_le (n + n) (omega (arith, c.requires.0)), c.requires.1, laws.length_law c.args.w.now)) in
    record {
      first_after = c.copy_quarter.ensures ∙ ap (quarter n 0) front;
      second_after = c.copy_quarter-2.ensures ∙ ap (quarter n n) front;
    }
