-- `solve_into` meets its contract: the right-hand matrix is copied to the output and solved there. Assumes nothing.
use mathlib.Core.Path.{ap, ◌∙◌}
use lib.ListN.{length}
use Rattle.lu_factoring.specs.Solve.{solved_matrix}
use Rattle.lu.proofs.calls.solve_into.Goals as goal

pub solve_rows-requires : goal.solve_rows-requires
solve_rows-requires g c = (c.requires.0, ap length c.copy_from_slice.ensures.after ∙ c.requires.1, c.requires.3, c.requires.4)

pub returns : goal.returns
returns g c =
    let a = c.args in
    c.solve_rows.ensures ∙ ap (solved_matrix g.T.Real.format a.n a.m (g.T.Real.floats a.f.now) a.pivots.now) (ap g.T.Real.floats c.copy_from_slice.ensures.after)
