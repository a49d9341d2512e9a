-- `block_part` meets its contract, by the loop of stores. Assumes nothing.
use native.Mathlib.Omega.{arith}
use Rattle.arithmetic_matrices.specs.Matrix.{at}
use Rattle.arithmetic_matrices.proofs.LoopLaws.{stored_start, stored_end}
use Rattle.arithmetic_matrices.proofs.SeenEntries.{seen_stored}
use Rattle.functions_kronecker.proofs.block_part.Goals as goal

pub loop-l-init : goal.loop-l-init
loop-l-init g c e h = stored_start _ _ _ _

pub loop-l-preserved : goal.loop-l-preserved
unfolding at
loop-l-preserved g c e h =
    let laws = g.met.T.Real in
    let low = c.loop-l-test.true in
    let x = laws.item_law _ _ _ c.index-b-k.is (omega arith) in
    seen_stored g.T.Real.float g.T.Real.floats _ _ laws.set_law (c.loop-l.invariant e h) low (h _ _ _ low x c.entry.ensures)

pub returns : goal.returns
returns g c e h = stored_end (c.loop-l.invariant e h) c.loop-l-test.false
