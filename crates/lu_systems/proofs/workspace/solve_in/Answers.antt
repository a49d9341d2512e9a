-- `solve_in` meets its contract, by what its three callees ensure. Assumes nothing.

use Rattle.lu_systems.proofs.RowSteps.{solve_rows_is}
use Rattle.lu_systems.proofs.workspace.solve_in.Goals as goal

pub returns : goal.returns
returns g c =
    let a = c.args in
    solve_rows_is g.T.Real.format a.f a.x a.n a.m a.pivots.now (g.T.Real.floats a.w.now) (g.T.Real.floats c.permute_rows.new.w) (g.T.Real.floats c.forward_rows.new.w) (g.T.Real.floats c.back_rows.new.w)
    (rw (g.met.T.Real.length_law a.w.now) c.requires.1) c.requires.2 c.permute_rows.ensures c.forward_rows.ensures c.back_rows.ensures
