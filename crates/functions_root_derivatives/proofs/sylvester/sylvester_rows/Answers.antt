-- `sylvester_rows` meets its contract, by the loop over the rows of the blocks. Assumes nothing.
use native.Mathlib.Omega.{arith}
use Rattle.arithmetic_matrices.proofs.MatrixLaws.{row_end}
use Rattle.arithmetic_matrices.proofs.FilledLaws.{filled_start, filled_inside, filled_turn, filled_end}
use Rattle.functions_root_derivatives.proofs.sylvester.sylvester_rows.Goals as goal

pub loop-r-init : goal.loop-r-init
loop-r-init g c = filled_start

pub sylvester_row-requires : goal.sylvester_row-requires
sylvester_row-requires g c = omega (arith, filled_inside c.loop-r.invariant c.loop-r-test.true, row_end c.loop-r.r c.args.n c.args.n c.loop-r-test.true)

pub overflow_add-z : goal.overflow_add-z
overflow_add-z g c = omega (arith, filled_inside c.loop-r.invariant c.loop-r-test.true, row_end c.loop-r.r c.args.n c.args.n c.loop-r-test.true)

pub loop-r-preserved : goal.loop-r-preserved
loop-r-preserved g c = search filled_turn

pub returns : goal.returns
returns g c = search filled_end
