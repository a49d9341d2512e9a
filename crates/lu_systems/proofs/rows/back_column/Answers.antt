-- `back_column` meets its contract. The invariant: the last k columns of the factors are done. Assumes nothing.
use native.Mathlib.Omega.{arith}
use mathlib.Core.Path.{◌≡◌, refl, sym, ◌∙◌}
use Rattle.arithmetic_matrices.proofs.PartLaws.{put-part}
use Rattle.lu_factoring.specs.Solve.{back}
use Rattle.lu_systems.proofs.RowSteps.{back_column_turn}
use Rattle.lu_systems.proofs.rows.back_column.Goals as goal

pub loop-k-init : goal.loop-k-init
unfolding back
loop-k-init g c = (refl, sym (put-part (g.T.Real.floats c.args.w.now) c.args.x c.args.n (rw (g.met.T.Real.length_law c.args.w.now) c.requires.1)))

pub loop-k-preserved : goal.loop-k-preserved
loop-k-preserved g c =
    let l = c.loop-k in
    let a = c.args in (
      c.back_column_step.auto.w ∙ l.invariant.0,
      back_column_turn g.T.Real.format a.f a.x a.n (g.T.Real.floats a.w.now) (g.T.Real.floats l.w) (g.T.Real.floats c.back_column_step.new.w) (rw (g.met.T.Real.length_law a.w.now) c.requires.1) c.requires.2
          l.k l.invariant.1 c.back_column_step.ensures,
    )

pub returns : goal.returns
returns g c =
    let e : c.loop-k.k ≡ c.args.n = omega arith in
    rw e at c.loop-k.invariant.1
