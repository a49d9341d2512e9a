-- `swap_rows` meets its contract: the matrix is the whole list. Assumes nothing.
use mathlib.Core.Path.{◌∙◌}
use Rattle.lu_factoring.proofs.RowLaws.{swap_rows_whole}
use Rattle.lu_factoring.proofs.factor.swap_rows.Goals as goal

pub returns : goal.returns
returns g c = c.exchange_rows.ensures ∙ swap_rows_whole _ _ _ _ c.requires.0 c.requires.1 (g.met.T.Real.length_law _ ∙ c.requires.2)
