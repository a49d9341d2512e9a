-- `factor_at` meets its contract. Assumes nothing.
use native.Mathlib.Omega.{arith}
use mathlib.Core.Path.{sym, ◌∙◌}
use Rattle.arithmetic_matrices.proofs.MatrixLaws.{index_lt}
use Rattle.arithmetic_matrices.proofs.PartLaws.{at_part}
use Rattle.lu_systems.proofs.rows.factor_at.Goals as goal

pub returns : goal.returns
returns g c =
    let a = c.args in
    let inside = index_lt c.requires.0 c.requires.1 in
    g.met.T.Real.item_law _ _ _ c.index-w-f.is (omega arith) ∙ sym (at_part (g.T.Real.floats a.w.now) a.f a.n a.n a.i a.k c.requires.0 c.requires.1)
