-- `factor_in` meets its contract: the part of w is lent to `factor_matrix` and comes back.
-- Assumes nothing.
use Rattle.lu_factoring.proofs.LuLaws.{done_in}
use Rattle.lu_factoring.proofs.factor.factor_in.Goals as goal

pub returns : goal.returns
returns g c =
    let laws = g.met.T.Real in
    rw laws.put_mid_law (done_in _ _ _ _ _ _ _ _ (rw laws.length_law c.requires.1) (rw (laws.take_law, laws.drop_law) at c.factor_matrix.ensures))
