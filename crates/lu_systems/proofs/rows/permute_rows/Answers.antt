-- `permute_rows` meets its contract. The invariant: the first k swaps are done in each column. Assumes nothing.
use native.Mathlib.Omega.{arith}
use mathlib.Core.Path.{◌≡◌, refl, ◌∙◌}
use Rattle.lu_factoring.specs.Solve.{permuted}
use Rattle.lu_factoring.proofs.RowLaws.{each_none}
use Rattle.lu_systems.proofs.RowSteps.{permute_rows_turn}
use Rattle.lu_systems.proofs.rows.permute_rows.Goals as goal

pub loop-k-init : goal.loop-k-init
unfolding permuted
loop-k-init g c =
    let a = c.args in
    (refl, each_none (g.T.Real.floats a.w.now) a.x a.n a.m (λ l. permuted a.n a.pivots.now l 0) (rw (g.met.T.Real.length_law c.args.w.now) c.requires.0) (λ l h. refl))

pub loop-k-preserved : goal.loop-k-preserved
loop-k-preserved g c =
    let l = c.loop-k in
    let a = c.args in (
      c.exchange_rows.auto.w ∙ l.invariant.0,
      permute_rows_turn a.x a.n a.m (g.T.Real.floats a.w.now) (g.T.Real.floats l.w) (g.T.Real.floats c.exchange_rows.new.w) (rw (g.met.T.Real.length_law c.args.w.now) c.requires.0) a.pivots.now l.k l.invariant.1 c.exchange_rows.ensures,
    )

pub returns : goal.returns
returns g c =
    let e : c.loop-k.k ≡ c.args.n = omega arith in
    rw e at c.loop-k.invariant.1
