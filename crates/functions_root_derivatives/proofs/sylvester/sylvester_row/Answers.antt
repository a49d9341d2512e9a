-- `sylvester_row` meets its contract, by the loop over the parts of the row. Assumes nothing.
use native.Mathlib.Omega.{arith}
use Rattle.functions_definitions.specs.Derivatives.{sylvester_entry}
use Rattle.arithmetic_matrices.proofs.FilledLaws.{filled_start, filled_inside, filled_turn, parts_end}
use Rattle.functions_root_derivatives.proofs.sylvester.sylvester_row.Goals as goal

pub loop-q-preserved : goal.loop-q-preserved
unfolding sylvester_entry
loop-q-preserved g c = filled_turn c.loop-q.invariant c.loop-q-test.true (rw c.second_entry.ensures at c.sylvester_part.ensures)

pub loop-q-init : goal.loop-q-init
loop-q-init g c = filled_start

pub sylvester_part-requires : goal.sylvester_part-requires
sylvester_part-requires g c = omega (arith, filled_inside c.loop-q.invariant c.loop-q-test.true)

pub overflow_add-z : goal.overflow_add-z
overflow_add-z g c = omega (arith, filled_inside c.loop-q.invariant c.loop-q-test.true)

pub returns : goal.returns
returns g c = search parts_end
