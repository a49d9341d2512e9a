-- `forward_by_rows` meets its contract. The invariant: the first i rows are final, and nothing else is changed. Assumes nothing.
use native.Mathlib.Omega.{arith}
use mathlib.Core.Path.{refl, ◌∙◌}
use Rattle.lu_systems.proofs.ByRows.{forward_rows_none, forward_rows_more, forward_rows_all}
use Rattle.lu_systems.proofs.rows.forward_by_rows.Goals as goal

pub loop-i-init : goal.loop-i-init
loop-i-init g c =
    let a = c.args in
    let w = g.T.Real.floats a.w.now in
    (refl, forward_rows_none g.T.Real.format a.f a.x a.n a.m w w (rw (g.met.T.Real.length_law a.w.now) c.requires.1) c.requires.2)

pub loop-i-preserved : goal.loop-i-preserved
loop-i-preserved g c =
    let row = c.lower_row in
    let l = c.loop-i in
    let a = c.args in (
      row.auto.w ∙ l.invariant.0,
      forward_rows_more g.T.Real.format a.f a.x a.n a.m (g.T.Real.floats a.w.now) (g.T.Real.floats l.w) (rw (g.met.T.Real.length_law a.w.now) c.requires.1) c.requires.2 l.i (g.T.Real.floats row.new.w)
          c.loop-i-test.true l.invariant.1 row.ensures,
    )

pub returns : goal.returns
returns g c =
    let l = c.loop-i in
    let a = c.args in
    forward_rows_all g.T.Real.format a.f a.x a.n a.m (g.T.Real.floats a.w.now) (g.T.Real.floats l.w) (rw (g.met.T.Real.length_law a.w.now) c.requires.1) c.requires.2 l.i (omega arith) l.invariant.1
