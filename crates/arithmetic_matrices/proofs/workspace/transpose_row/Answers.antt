-- `transpose_row` meets its contract, by the loop of stores. Assumes nothing.
use Rattle.std.proofs.Common.{◌+◌, ◌*◌, ◌<◌, length, ◌∙◌, arith, rules}
use Rattle.arithmetic_matrices.proofs.MatrixLaws.{index_lt}
use Rattle.arithmetic_matrices.proofs.LoopLaws.{stored_start, stored_end, stored_apart}
use Rattle.arithmetic_matrices.proofs.SeenEntries.{seen_stored}
use Rattle.arithmetic_matrices.proofs.workspace.transpose_row.Goals as goal

pub loop-j-preserved : goal.loop-j-preserved
loop-j-preserved g c =
    let h = c.loop-j-test.true in
    let inside = index_lt h c.requires.n_bound.1 in
    let laws = g.met.T.Real in
    seen_stored g.T.Real.float g.T.Real.floats _ _ laws.set_law c.loop-j.invariant h
    (laws.item_law _ _ _ c.index-w-x.is (omega (arith, inside)) ∙ stored_apart c.loop-j.invariant c.requires.apart inside)

pub loop-j-init : goal.loop-j-init
loop-j-init g c = stored_start _ _ _ _

pub offset_bounds-w-x : goal.offset_bounds-w-x
offset_bounds-w-x g c =
    let inside : c.args.x + (c.loop-j.j * c.args.n + c.args.i) < length c.loop-j.w = omega (arith, index_lt c.loop-j-test.true c.requires.n_bound.1) in
    search rules

pub returns : goal.returns
returns g c = search stored_end
