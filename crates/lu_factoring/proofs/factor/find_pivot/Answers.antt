-- `find_pivot` meets its contract, by the search of the pivot (`PivotSearch` of LuLoop). Assumes nothing.
use mathlib.Core.Path.{sym, ◌∙◌, ap}
use Rattle.lu_factoring.proofs.LuLoop.{pivot_start, pivot_new, pivot_kept, pivot_end}
use Rattle.lu_factoring.proofs.factor.find_pivot.Goals as goal
use Rattle.lu_factoring.proofs.factor.find_pivot.Goals.{then-lt, else-lt}

pub loop-i-preserved : goal.loop-i-preserved
loop-i-preserved g c =
    let s = c.loop-i.invariant in
    let h = c.loop-i-test.true in
    let e = c.magnitude-v.ensures.value in
    let u = c.entry-in-loop-i.ensures in
    let tested = sym (g.met.T.Real.less_law _ _) ∙ sym c.lt.ensures in
    elim c.if-lt.branch [
      | then-lt w ↦ pivot_new s h e u (tested ∙ w.if-lt.true) w.p-is (ap g.T.Real.float w.best-is)
      | else-lt w ↦ pivot_kept s h e u (tested ∙ w.if-lt.false) w.p-is (ap g.T.Real.float w.best-is)
    ]

pub returns : goal.returns
returns g c = pivot_end c.loop-i.invariant c.loop-i-test.false

pub loop-i-init : goal.loop-i-init
loop-i-init g c = pivot_start c.requires.0 c.magnitude-best.ensures.value c.entry.ensures
