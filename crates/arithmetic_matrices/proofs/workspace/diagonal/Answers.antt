-- `diagonal` meets its contract, by the loop over the rows of a slot. Assumes nothing.
use Rattle.arithmetic_matrices.specs.Product.{diagonal_m}
use Rattle.arithmetic_matrices.proofs.LoopLaws.{slot_rows_start, slot_rows_turn, slot_rows_end}
use Rattle.arithmetic_matrices.proofs.workspace.diagonal.Goals as goal

pub loop-i-init : goal.loop-i-init
loop-i-init g c = slot_rows_start search

pub loop-i-preserved : goal.loop-i-preserved
unfolding diagonal_m
loop-i-preserved g c = search slot_rows_turn

pub returns : goal.returns
unfolding diagonal_m
returns g c = search slot_rows_end
