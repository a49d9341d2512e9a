-- `place` meets its contract, by the loop over the rows (`Placed`). Assumes nothing.
use mathlib.Core.Path.{◌∙◌, ap}
use lib.ListN.{take}
use Rattle.arithmetic_matrices.proofs.LoopLaws.{placed_start, placed_turn}
use Rattle.arithmetic_matrices.proofs.matrix.place.Goals as goal

pub loop-i-init : goal.loop-i-init
loop-i-init g c = placed_start

pub loop-i-preserved : goal.loop-i-preserved
loop-i-preserved g c =
    let laws = g.met.T.Real in
    let turn = c.loop-i-test.true in
    rw laws.put_mid_law
    (placed_turn c.loop-i.invariant turn (laws.length_law _ ∙ c.requires.src_len) (rw laws.length_law (c.requires.by_index _ turn))
    (ap g.T.Real.floats c.copy_from_slice.ensures.after ∙ laws.take_law _ _ ∙ ap (take _) (laws.drop_law _ _)))
