-- `eliminate_row` meets its contract: the multiplier is stored, and the rest of the row is reduced by it.
-- Assumes nothing.
use mathlib.Core.Path.{◌∙◌}
use Rattle.lu_factoring.proofs.LuLaws.{reduce_is}
use Rattle.lu_factoring.proofs.factor.eliminate_row.Goals as goal

pub returns : goal.returns
returns g c =
    let laws = g.met.T.Real in
    reduce_is _ _ _ _ _ _ _ _ _ _ c.requires.0 c.requires.1 (laws.length_law _ ∙ c.requires.2) c.entry.ensures (laws.mul_law _ _ _ c.mul-x.ensures) c.set_entry.ensures c.subtract_row.ensures
