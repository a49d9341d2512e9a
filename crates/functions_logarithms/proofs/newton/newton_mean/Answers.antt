-- `newton_mean` meets its contract: a step for each call. Assumes nothing.
use native.Mathlib.Omega.{arith}
use Rattle.arithmetic_floats.specs.Root.{sqrt_of}
use Rattle.arithmetic_matrices.proofs.MatrixLaws.{square_le}
use Rattle.functions_roots.proofs.PassLaws.{root_of_squares}
use Rattle.functions_logarithms.proofs.NewtonLaws.{newton_mean_steps}
use Rattle.functions_logarithms.proofs.newton.newton_mean.Goals as goal

pub overflow_mul-n : goal.overflow_mul-n
overflow_mul-n g c = omega (arith, square_le c.args.n c.requires.order)

pub sum_of_squared_differences-sum-requires : goal.sum_of_squared_differences-sum-requires
sum_of_squared_differences-sum-requires g c = omega (arith, square_le c.args.n c.requires.order, c.requires.space, c.mean.auto.w, g.met.T.Real.length_law c.args.w.now)

pub returns : goal.returns
returns g c =
    let d = c.sum_of_squared_differences-sum in
    newton_mean_steps g.T.Real.format c.args.n (g.T.Real.floats c.args.w.now) c.requires (g.T.Real.floats c.mean.new.w) (g.T.Real.floats c.copy.new.w) (sqrt_of g.T.Real.format (g.T.Real.float d.result)) c.root_verdict.result c.mean.ensures (root_of_squares g.T.Real.format c.args.n (g.T.Real.floats c.mean.new.w) 1 2 (g.T.Real.float d.result) d.ensures) c.copy.ensures c.root_verdict.ensures
