-- `trace` meets its contract, by the loop of a sum. Assumes nothing.
use native.Mathlib.Omega.{arith}
use mathlib.Core.Path.{sym, ◌∙◌, ap}
use Rattle.arithmetic_matrices.specs.Workspace.{slot}
use Rattle.arithmetic_matrices.proofs.MatrixLaws.{index_lt}
use Rattle.arithmetic_matrices.proofs.NormLaws.{trace_part}
use Rattle.arithmetic_matrices.proofs.LoopLaws.{room_few}
use Rattle.arithmetic_matrices.proofs.SeenSums.{partial_start, partial_turn, partial_end}
use Rattle.arithmetic_matrices.proofs.norm.trace.Goals as goal

pub loop-i-init : goal.loop-i-init
loop-i-init g c = partial_start (ap g.T.Real.float c.ZERO-sum.ensures ∙ g.met.T.Real.zero_law)

pub loop-i-preserved : goal.loop-i-preserved
loop-i-preserved g c =
    let laws = g.met.T.Real in
    partial_turn c.loop-i.invariant c.loop-i-test.true (laws.add_law _ _ _ c.add-sum.ensures)
    (laws.item_law _ _ _ c.index-w-x.is (omega (arith, room_few c.requires.room, laws.length_law c.args.w.now, index_lt c.loop-i-test.true c.loop-i-test.true)))

pub returns : goal.returns
unfolding slot
returns g c = partial_end c.loop-i.invariant c.loop-i-test.false ∙ sym (trace_part g.T.Real.format c.args.n (g.T.Real.floats c.args.w.now) _)
