-- `mult_row` meets its contract. The invariant: the first j entries of the row are written, and nothing else is changed. Assumes nothing.
use native.Mathlib.Omega.{arith}
use mathlib.Core.Path.{◌≡◌, refl, ◌∙◌}
use Rattle.arithmetic_matrices.proofs.PartLaws.{put-none}
use Rattle.arithmetic_matrices.proofs.ProductLaws.{row_dot_more}
use Rattle.arithmetic_matrices.proofs.product.mult_row.Goals as goal

pub loop-j-init : goal.loop-j-init
loop-j-init g c = (omega arith, refl, put-none _ _ _)

pub loop-j-preserved : goal.loop-j-preserved
loop-j-preserved g c =
    let next = c.mult_next-j in
    let l = c.loop-j in
    let a = c.args in
    let w = g.T.Real.floats a.w.now in
    let pre = c.requires in (
      next.ensures.1,
      next.auto.w ∙ l.invariant.1,
      rw (next.ensures.2, l.invariant.2) (row_dot_more g.T.Real.format a.n w a.x a.b a.y l.j next.result next.ensures.1 pre.apart.0 pre.apart.1),
    )

pub returns : goal.returns
returns g c =
    let e : c.loop-j.j ≡ c.args.n = omega arith in
    rw e at c.loop-j.invariant.2
