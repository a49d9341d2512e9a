-- `lower_column` meets its contract. The invariant: the rows from lo up to i are done. Assumes nothing.
use Prim.Native.Nat.{◌+◌, ◌*◌}
use native.Mathlib.Omega.{arith}
use mathlib.Core.Path.{◌≡◌, refl, sym, ap, ◌∙◌}
use lib.ListN.{set, length-set}
use lib.Ieee.{nan, sub, mul}
use Rattle.arithmetic_matrices.specs.Matrix.{item, part, put}
use Rattle.arithmetic_matrices.proofs.PatchLaws.{patch_none}
use Rattle.arithmetic_matrices.proofs.PartLaws.{put-part}
use Rattle.lu_factoring.specs.Kernels.{lowered}
use Rattle.lu_systems.proofs.RowSteps.{lower_column_turn}
use Rattle.lu_systems.proofs.rows.lower_column.Goals as goal

pub loop-i-init : goal.loop-i-init
loop-i-init g c =
    let a = c.args in
    let l = part (g.T.Real.floats a.w.now) a.x a.n in (
      omega arith,
      c.requires.k_lt_n.1,
      refl,
      sym (put-part (g.T.Real.floats a.w.now) a.x a.n (rw (g.met.T.Real.length_law a.w.now) c.requires.n_in_bounds.1)) ∙ ap (put (g.T.Real.floats a.w.now) a.x) (patch_none nan a.lo (lowered g.T.Real.format a.n (part (g.T.Real.floats a.w.now) a.f (a.n * a.n)) a.k l) l),
    )

pub loop-i-preserved : goal.loop-i-preserved
loop-i-preserved g c =
    let l = c.loop-i in
    let laws = g.met.T.Real in
    let f = g.T.Real.format in
    let a = c.args in
    let read : g.T.Real.float c.index-w-x-in-loop-i.result ≡ item (g.T.Real.floats l.w) (a.x + l.i) = laws.item_law _ _ _ c.index-w-x-in-loop-i.is (omega (arith, c.requires.k_lt_n.2, l.invariant.2)) in
    let value : g.T.Real.float c.sub.result ≡ sub f (item (g.T.Real.floats l.w) (a.x + l.i)) (mul f (g.T.Real.float c.factor_at.result) (g.T.Real.float c.index-w-x.result)) =
    laws.sub_law _ _ _ c.sub.ensures ∙ (λ i. sub f (read i) (laws.mul_law _ _ _ c.mul.ensures i)) in (
      omega (arith, l.invariant.0),
      omega (arith, c.loop-i-test.true),
      simp length-set l.invariant.2,
      laws.set_law _ _ _ ∙ ap (set (g.T.Real.floats l.w) (a.x + l.i)) value
          ∙ lower_column_turn g.T.Real.format a.f a.x a.n a.k a.lo l.i (g.T.Real.floats a.w.now) (g.T.Real.floats l.w) (g.T.Real.float c.factor_at.result) (g.T.Real.float c.index-w-x.result) c.requires.k_lt_n.0 l.invariant.0
          (omega (arith, c.loop-i-test.true, c.requires.k_lt_n.2)) (rw (laws.length_law a.w.now) c.requires.n_in_bounds.1) c.requires.n_in_bounds.2 l.invariant.3 c.factor_at.ensures (laws.item_law _ _ _ c.index-w-x.is (omega arith)),
    )

pub returns : goal.returns
returns g c =
    let e : c.loop-i.i ≡ c.args.hi = omega arith in
    rw e at c.loop-i.invariant.3
