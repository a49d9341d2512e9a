-- `mat_mult` meets its contract. The invariant: the first i rows of the product are written, and nothing else is changed. Assumes nothing.
use Prim.Native.Nat.{◌+◌, ◌*◌, ◌≤◌}
use native.Mathlib.Omega.{arith}
use native.Mathlib.Nat.{zero-mul}
use mathlib.Core.Path.{◌≡◌, refl, ◌∙◌}
use Rattle.arithmetic_matrices.proofs.MatrixLaws.{row_end, more_rows}
use Rattle.arithmetic_matrices.proofs.PartLaws.{put_no_row, apart_within}
use Rattle.arithmetic_matrices.proofs.ProductLaws.{mul_m_parts, mul_m_row}
use Rattle.arithmetic_matrices.proofs.product.mat_mult.Goals as goal

pub loop-i-init : goal.loop-i-init
loop-i-init g c = (omega arith, refl, omega (arith, zero-mul c.args.n), omega (arith, zero-mul c.args.n), put_no_row _ _ _ _)

-- the rows that the turn reads and writes
pub mult_row-requires : goal.mult_row-requires
mult_row-requires g c =
    let rows : c.loop-i.i * c.args.n + c.args.n ≤ c.args.n * c.args.n = row_end c.loop-i.i c.args.n c.args.n c.loop-i-test.true in
    record {
      n_bound = omega arith;
      apart = (
        apart_within _ _ _ _ _ _ _ _ c.requires.apart.0 (omega arith) (omega arith) (omega arith) (omega arith),
        apart_within _ _ _ _ _ _ _ _ c.requires.apart.1 (omega arith) (omega arith) (omega arith) (omega arith),
      );
    }

pub loop-i-preserved : goal.loop-i-preserved
loop-i-preserved g c =
    let l = c.loop-i in
    let a = c.args in
    let w = g.T.Real.floats a.w.now in
    let pre = c.requires in
    let m = more_rows l.i a.n in (
      omega arith,
      c.mult_row.auto.w ∙ l.invariant.1,
      omega arith,
      omega arith,
      rw (c.mult_row.ensures, l.invariant.2, l.invariant.3, l.invariant.4) (mul_m_row g.T.Real.format a.n w a.a a.b a.c l.i c.loop-i-test.true pre.apart.0 pre.apart.1),
    )

pub returns : goal.returns
returns g c =
    let e : c.loop-i.i ≡ c.args.n = omega arith in
    let a = c.args in
    rw (mul_m_parts g.T.Real.format a.n (g.T.Real.floats a.w.now) a.a a.b) (rw e at c.loop-i.invariant.4)
