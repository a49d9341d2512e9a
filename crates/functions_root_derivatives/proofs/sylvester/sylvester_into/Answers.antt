-- `sylvester_into` meets its contract, by the loop over the rows of blocks. Assumes nothing.
use mathlib.Core.Path.{◌∙◌}
use native.Mathlib.Nat.{mul-le-mul}
use native.Mathlib.Omega.{arith}
use Rattle.arithmetic_matrices.specs.Kernels.{block_row}
use Rattle.functions_definitions.specs.Derivatives.{sylvester_matrix}
use Rattle.arithmetic_matrices.proofs.FilledLaws.{blocks_start, blocks_inside, blocks_turn, blocks_end}
use Rattle.functions_root_derivatives.proofs.sylvester.sylvester_into.Goals as goal

pub returns : goal.returns
unfolding sylvester_matrix block_row
returns g c = blocks_end c.loop-p.invariant c.loop-p-test.false (g.met.T.Real.length_law c.args.out.now ∙ c.requires.3)

pub overflow_mul-size-2 : goal.overflow_mul-size-2
overflow_mul-size-2 g c = omega (arith, mul-le-mul c.requires.0 c.requires.1)

pub loop-p-init : goal.loop-p-init
loop-p-init g c = blocks_start

pub sylvester_rows-requires : goal.sylvester_rows-requires
sylvester_rows-requires g c = omega (arith, blocks_inside c.loop-p.invariant c.loop-p-test.true)

pub overflow_add-y : goal.overflow_add-y
overflow_add-y g c = omega (arith, blocks_inside c.loop-p.invariant c.loop-p-test.true)

pub loop-p-preserved : goal.loop-p-preserved
loop-p-preserved g c = search blocks_turn
