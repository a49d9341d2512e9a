-- `mult_next` meets its contract. Assumes nothing.
use native.Mathlib.Omega.{arith}
use native.Mathlib.Nat.{add-zero}
use mathlib.Core.Path.{◌∙◌}
use Rattle.arithmetic_matrices.proofs.ProductLaws.{put_first}
use Rattle.arithmetic_matrices.proofs.product.mult_next.Goals as goal

pub returns : goal.returns
returns g c = (omega arith, omega arith, g.met.T.Real.set_law _ _ _ ∙ put_first _ _ _ _ (rw add-zero c.row_dot.ensures))
