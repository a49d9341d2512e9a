-- `lower_row` meets its contract. The invariant: the first j numbers of the row are written, and nothing else is changed. Assumes nothing.
use native.Mathlib.Omega.{arith}
use mathlib.Core.Path.{◌≡◌, refl, ◌∙◌}
use Rattle.arithmetic_matrices.proofs.PartLaws.{put-none}
use Rattle.lu_systems.proofs.ByRows.{lower_more}
use Rattle.lu_systems.proofs.rows.lower_row.Goals as goal

pub loop-j-init : goal.loop-j-init
loop-j-init g c = (omega arith, refl, put-none _ _ _)

pub loop-j-preserved : goal.loop-j-preserved
loop-j-preserved g c =
    let next = c.lower_next-j in
    let l = c.loop-j in
    let a = c.args in
    let pre = c.requires in (
      next.ensures.1,
      next.auto.w ∙ l.invariant.1,
      rw (next.ensures.2, l.invariant.2) (lower_more g.T.Real.format a.k a.m (g.T.Real.floats a.w.now) a.y l.j next.result next.ensures.1 a.q a.x pre.3 pre.4),
    )

pub returns : goal.returns
returns g c =
    let e : c.loop-j.j ≡ c.args.m = omega arith in
    rw e at c.loop-j.invariant.2
