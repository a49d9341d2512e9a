-- `copy_in` meets its contract: a part is lent, and is as long as what is copied to it. Assumes nothing.
use Rattle.std.proofs.Common.{◌*◌, refl, arith}
use Rattle.arithmetic_matrices.specs.Workspace.{store}
use Rattle.arithmetic_matrices.proofs.SeenEntries.{seen_put}
use Rattle.arithmetic_matrices.proofs.workspace.copy_in.Goals as goal

pub returns : goal.returns
unfolding store
returns g c =
    let laws = g.met.T.Real in
    rw c.copy_from_slice.ensures.after
    (seen_put g.T.Real.floats c.args.w.now laws.length_law laws.put_mid_law (256 * c.args.a) _ c.args.src.now refl (omega arith))
