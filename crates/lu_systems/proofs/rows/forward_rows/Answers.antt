-- `forward_rows` meets its contract: where there is one column, the matrix is that column. Assumes nothing.
use Prim.Native.Nat.{◌*◌}
use mathlib.Core.Path.{◌∙◌}
use Rattle.arithmetic_matrices.specs.Matrix.{part}
use Rattle.arithmetic_matrices.proofs.PartLaws.{length_part}
use Rattle.lu_factoring.specs.Solve.{forward}
use Rattle.lu_factoring.proofs.SolveLaws.{length-forward}
use Rattle.lu_factoring.proofs.RowLaws.{each_one}
use Rattle.lu_systems.proofs.rows.forward_rows.Goals as goal

pub returns-then-m-eq1 : goal.returns-then-m-eq1
returns-then-m-eq1 g c =
    let a = c.args in
    let F = part (g.T.Real.floats a.w.now) a.f (a.n * a.n) in
    let l = part (g.T.Real.floats a.w.now) a.x a.n in
    rw c.if-m-eq1.true
    (c.forward_column.ensures
    ∙ each_one (g.T.Real.floats a.w.now) a.x a.n (λ u. forward g.T.Real.format a.n F u a.n) (length-forward g.T.Real.format a.n F l a.n (length_part (g.T.Real.floats a.w.now) a.x a.n)))

pub returns-else-m-eq1 : goal.returns-else-m-eq1
returns-else-m-eq1 g c = c.forward_by_rows.ensures
