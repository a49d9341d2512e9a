-- `back_by_rows` meets its contract. The invariant: the last k rows are final, and nothing else is changed. Assumes nothing.
use Prim.Native.Nat.{ℕ, suc, ◌+◌, ◌-◌, ◌*◌, ◌<◌, ◌≤◌}
use native.Mathlib.Omega.{arith}
use mathlib.Core.Path.{◌≡◌, refl, ◌∙◌}
use Rattle.arithmetic_matrices.proofs.MatrixLaws.{row_end}
use Rattle.arithmetic_matrices.proofs.PartLaws.{apart_within}
use Rattle.lu_systems.proofs.ByRows.{rows_from, back_rows_none, back_rows_turn, back_rows_all}
use Rattle.lu_systems.proofs.rows.back_by_rows.Goals as goal

-- the row that has k rows after it lies within the n rows
row_within : {k n : ℕ} (m : ℕ) → k < n → (n - (k + 1)) * m + m ≤ n * m
row_within {k} {n} m h = let b : n - (k + 1) < n = omega arith in row_end (n - (k + 1)) n m b

pub loop-k-init : goal.loop-k-init
loop-k-init g c =
    let a = c.args in
    let w = g.T.Real.floats a.w.now in
    let e : a.n - 0 ≡ a.n = omega arith in
    (refl, rw e (back_rows_none g.T.Real.format a.f a.x a.n a.m w w (rw (g.met.T.Real.length_law a.w.now) c.requires.1) c.requires.2))

pub upper_row-requires : goal.upper_row-requires
upper_row-requires g c =
    let a = c.args in
    let k = c.loop-k.k in
    let e : a.n - (c.loop-k.k + 1) + suc c.loop-k.k ≡ a.n = omega arith in
    let d = row_within a.n c.loop-k-test.true in
    let r = rows_from (a.n - (k + 1)) k a.n a.m e in
    (omega arith, omega arith, apart_within _ _ _ _ _ _ _ _ c.requires.2 (omega arith) (omega arith) (omega arith) (omega arith))

pub loop-k-preserved : goal.loop-k-preserved
loop-k-preserved g c =
    let row = c.upper_row in
    let l = c.loop-k in
    let a = c.args in (
      row.auto.w ∙ l.invariant.0,
      back_rows_turn g.T.Real.format a.f a.x a.n a.m (g.T.Real.floats a.w.now) (g.T.Real.floats l.w) (rw (g.met.T.Real.length_law a.w.now) c.requires.1) c.requires.2 (a.n - (l.k + 1)) (a.n - l.k) l.k (g.T.Real.floats row.new.w)
          (omega arith) (omega arith) l.invariant.1 row.ensures,
    )

pub returns : goal.returns
returns g c =
    let l = c.loop-k in
    let a = c.args in
    back_rows_all g.T.Real.format a.f a.x a.n a.m (g.T.Real.floats a.w.now) (g.T.Real.floats l.w) (rw (g.met.T.Real.length_law a.w.now) c.requires.1) c.requires.2 (a.n - l.k) (omega arith) l.invariant.1
