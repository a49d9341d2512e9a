-- `copy` meets its contract: `copy_within` puts a part in another place. Assumes nothing.
use Rattle.std.proofs.Common.{◌*◌, arith}
use Rattle.arithmetic_matrices.specs.Workspace.{slot, store}
use Rattle.arithmetic_matrices.proofs.LoopLaws.{room_few}
use Rattle.arithmetic_matrices.proofs.SeenEntries.{seen_within}
use Rattle.arithmetic_matrices.proofs.workspace.copy.Goals as goal

pub returns : goal.returns
unfolding slot store
returns g c =
    let laws = g.met.T.Real in
    let few = room_few c.requires.room in
    let long = laws.length_law c.args.w.now in
    rw c.copy_within.ensures.after
    (seen_within g.T.Real.floats c.args.w.now laws.length_law laws.take_law laws.drop_law laws.put_mid_law
    (256 * c.args.a) (256 * c.args.c) _ (omega (arith, few, long, c.requires.room.space)) (omega (arith, few, long, c.requires.room.space)))
