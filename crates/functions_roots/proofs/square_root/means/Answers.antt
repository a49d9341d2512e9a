-- `means` meets its contract: a step for each call. Assumes nothing.
use native.Mathlib.Omega.{arith}
use Rattle.arithmetic_floats.specs.Root.{sqrt_of}
use Rattle.arithmetic_matrices.proofs.MatrixLaws.{square_le}
use Rattle.functions_roots.proofs.PassLaws.{root_of_squares}
use Rattle.functions_roots.proofs.SquareRootLaws.{means_steps}
use Rattle.functions_roots.proofs.square_root.means.Goals as goal

pub overflow_mul-n : goal.overflow_mul-n
overflow_mul-n g c = omega (arith, square_le c.args.n c.requires.order)

pub sum_of_squared_differences-sum-requires : goal.sum_of_squared_differences-sum-requires
sum_of_squared_differences-sum-requires g c =
    let laws = g.met.T.Real in
    omega (arith, square_le c.args.n c.requires.order, c.requires.space, c.mean.auto.w, c.mean-2.auto.w, laws.length_law c.args.w.now)

pub returns : goal.returns
returns g c =
    let d = c.sum_of_squared_differences-sum in
    means_steps g.T.Real.format c.args.n (g.T.Real.floats c.args.w.now) c.requires (g.T.Real.floats c.mean.new.w) (g.T.Real.floats c.mean-2.new.w) (g.T.Real.floats c.copy.new.w) (g.T.Real.floats c.copy-2.new.w) (sqrt_of g.T.Real.format (g.T.Real.float d.result)) c.root_verdict.result
    c.mean.ensures c.mean-2.ensures (root_of_squares g.T.Real.format c.args.n (g.T.Real.floats c.mean-2.new.w) 0 2 (g.T.Real.float d.result) d.ensures) c.copy.ensures c.copy-2.ensures c.root_verdict.ensures
