-- `transpose` meets its contract, by the loop over the rows of a slot. Assumes nothing.
use mathlib.Core.Path.{◌∙◌, ap}
use Rattle.arithmetic_matrices.specs.Matrix.{put}
use Rattle.arithmetic_matrices.specs.Product.{transpose_m}
use Rattle.arithmetic_matrices.proofs.MatrixLaws.{tab_cong}
use Rattle.arithmetic_matrices.proofs.LoopLaws.{slot_rows_start, slot_rows_turn, slot_rows_end, other_at}
use Rattle.arithmetic_matrices.proofs.workspace.transpose.Goals as goal

pub loop-i-preserved : goal.loop-i-preserved
loop-i-preserved g c =
    let l = c.loop-i in
    let h = c.loop-i-test.true in
    slot_rows_turn l.invariant h (c.transpose_row.ensures ∙ ap (put (g.T.Real.floats l.w) l.y) (tab_cong c.args.n _ _ (λ j hj. other_at l.invariant c.args.a j l.i c.requires.a_bound.2 hj h)))

pub loop-i-init : goal.loop-i-init
loop-i-init g c = slot_rows_start search

pub returns : goal.returns
unfolding transpose_m
returns g c = search slot_rows_end
