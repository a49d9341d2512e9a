-- `solve_rows` meets its contract, by what its three callees ensure. Assumes nothing.
use mathlib.Core.Path.{◌∙◌}
use Rattle.lu_substitution.proofs.SubstitutionLaws.{solve_rows_is}
use Rattle.lu_substitution.proofs.substitution.solve_rows.Goals as goal

pub returns : goal.returns
returns g c =
    let a = c.args in
    solve_rows_is g.T.Real.format a.n a.m (g.T.Real.floats a.f.now) a.pivots.now (g.T.Real.floats a.x.now) _ _ _ (g.met.T.Real.length_law a.x.now ∙ c.requires.1)
    c.permute_rows.ensures c.forward_rows.ensures c.back_rows.ensures
