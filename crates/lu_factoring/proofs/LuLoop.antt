-- What the loops of LU factoring keep, over the format, as records, each with its laws: start, one turn, end. Assumes nothing.
use Rattle.std.specs.Prelude.{Ok}
use Prim.Native.Nat.{ℕ, suc, ◌+◌, ◌-◌, ◌*◌, ◌<◌, ◌≤◌}
use native.Mathlib.Omega.{arith}
use mathlib.Core.Path.{◌≡◌, refl, sym, ◌∙◌, ap, ap₂}
use mathlib.Core.Bool.{true, false}
use mathlib.Core.List.{List}
use lib.ListN.{length, set, length-set}
use lib.Ieee.{Float, Format, lt, le, mul, sub}
use Rattle.arithmetic_floats.specs.Float.{magnitude}
use Rattle.arithmetic_matrices.specs.Matrix.{at}
use Rattle.arithmetic_matrices.specs.Kernels.{patch, row_to, rows_to, with_row}
use Rattle.arithmetic_matrices.proofs.PatchLaws.{patch_none, length-rows_to}
use Rattle.lu_factoring.specs.Lu.{singular, pivot_among, pivot_row, swap_rows, pivot_reciprocal, reduced, eliminated_entry, eliminated, tolerance, lu_at, lu_pivot, lu_from, lu_outcome}
use Rattle.lu_factoring.specs.Kernels.{subtracted, LuDone}
use Rattle.lu_factoring.proofs.LuLaws.{pivot_step, subtract_none, subtract_turn, eliminate_none, eliminate_turn, eliminate_all, length-eliminated, lu_turn, pivots_turn, refused_is, pass, refuse, finish}

-- ---- the columns

-- m and ps are the matrix and the pivots after k columns
pub record Columns (f : Format) (n : ℕ) (a : List Float) (ps₀ : List ℕ) (m : List Float) (ps : List ℕ) (k : ℕ) : Type 0 where
  pub within : k ≤ n
  pub size : length m ≡ n * n
  pub lent : length ps₀ ≡ n
  pub rows : length ps ≡ n
  pub matrix : m ≡ lu_at f n a k
  pub pivots : ps ≡ patch 0 k (lu_pivot f n a) ps₀
  pub outcome : lu_outcome f n a ≡ lu_from f n a (n - k) k

pub columns_start : (f : Format) (n : ℕ) (a : List Float) (ps : List ℕ) → length a ≡ n * n → length ps ≡ n → Columns f n a ps a ps 0
unfolding lu_at lu_outcome
columns_start f n a ps h l =
    let e : n - 0 ≡ n = omega arith in
    record { within = omega arith; size = h; lent = l; rows = l; matrix = refl; pivots = patch_none 0 0 (lu_pivot f n a) ps; outcome = rw e }

-- p is the pivot's row, u its entry, v the entry's magnitude and t the tolerance
module _ (f : Format) (n : ℕ) {a : List Float} {ps₀ : List ℕ} {m : List Float} {ps : List ℕ} {k : ℕ} (p : ℕ) (u v t : Float) (c : Columns f n a ps₀ m ps k)
    (h : k < n) (row : p ≡ pivot_row n m k) (entry : u ≡ at n m p k) (size : v ≡ magnitude u) (limit : t ≡ tolerance f n) where
  pub columns_refused : le v t ≡ true → LuDone f n a ps₀ m ps (singular k)
  columns_refused e = record {
    outcome = refuse f n a k h (refused_is f n a k p m u v t true c.matrix row entry size limit e) c.outcome;
    factors = c.matrix;
    pivots = c.pivots;
  }

  pub columns_passed : (m1 m2 : List Float) → le v t ≡ false → m1 ≡ swap_rows n k p m → m2 ≡ eliminated f n k m1 → Columns f n a ps₀ m2 (set ps k p) (k + 1)
  columns_passed m1 m2 e s x = record {
    within = omega arith;
    size = ap length x ∙ length-eliminated f n k m1;
    lent = c.lent;
    rows = length-set ps k p ∙ c.rows;
    matrix = lu_turn f n a k p m m1 m2 c.matrix row s x;
    pivots = pivots_turn f n a ps₀ ps (set ps k p) k p m (rw c.lent h) c.matrix row c.pivots refl;
    outcome = pass f n a k h (refused_is f n a k p m u v t false c.matrix row entry size limit e) c.outcome;
  }

pub columns_end : (f : Format) (n : ℕ) {a : List Float} {ps₀ : List ℕ} {m : List Float} {ps : List ℕ} {k : ℕ} → Columns f n a ps₀ m ps k → n ≤ k → LuDone f n a ps₀ m ps (Ok tt)
columns_end f n {a} {ps₀} {m} {ps} {k} c h =
    let e : k ≡ n = omega arith in
    record { outcome = finish f n a k h c.outcome; factors = rw e at c.matrix; pivots = rw e at c.pivots }

-- ---- the search of the pivot of column k

-- p is the pivot's row among the rows k, .., i - 1, and best its magnitude
pub record PivotSearch (n : ℕ) (m : List Float) (k p : ℕ) (best : Float) (i : ℕ) : Type 0 where
  pub below : k < i
  pub within : i ≤ n
  pub row : p < n
  pub size : best ≡ magnitude (at n m p k)
  pub pivot : p ≡ pivot_among n m k (i - suc k)

pub pivot_start : {n : ℕ} {m : List Float} {k : ℕ} {u best : Float} → k < n → best ≡ magnitude u → u ≡ at n m k k → PivotSearch n m k k best (k + 1)
unfolding pivot_among
pivot_start {k = k} h e q =
    let none : k + 1 - suc k ≡ 0 = omega arith in
    record { below = omega arith; within = omega arith; row = h; size = e ∙ ap magnitude q; pivot = rw none }

module _ {n : ℕ} {m : List Float} {k p : ℕ} {best : Float} {i : ℕ} (s : PivotSearch n m k p best i) where
  -- row i has the larger magnitude, and it has not
  module _ {u v : Float} (h : i < n) (e : v ≡ magnitude u) (q : u ≡ at n m i k) where
    test : lt (magnitude (at n m p k)) (magnitude (at n m i k)) ≡ lt best v
    test = ap₂ lt (sym s.size) (sym (e ∙ ap magnitude q))

    pub pivot_new : {p' : ℕ} {best' : Float} → lt best v ≡ true → p' ≡ i → best' ≡ v → PivotSearch n m k p' best' (i + 1)
    pivot_new t ep eb = record {
      below = omega (arith, s.below);
      within = omega arith;
      row = omega arith;
      size = eb ∙ e ∙ ap magnitude q ∙ ap (λ r. magnitude (at n m r k)) (sym ep);
      pivot = ep ∙ pivot_step n m k i p true s.below s.pivot (test ∙ t);
    }

    pub pivot_kept : {p' : ℕ} {best' : Float} → lt best v ≡ false → p' ≡ p → best' ≡ best → PivotSearch n m k p' best' (i + 1)
    pivot_kept t ep eb = record {
      below = omega (arith, s.below);
      within = omega arith;
      row = omega (arith, s.row);
      size = eb ∙ s.size ∙ ap (λ r. magnitude (at n m r k)) (sym ep);
      pivot = ep ∙ pivot_step n m k i p false s.below s.pivot (test ∙ t);
    }

  pub pivot_end : n ≤ i → (p ≡ pivot_row n m k) × (p < n)
  unfolding pivot_row
  pivot_end h = let e : i ≡ n = omega (arith, s.within) in (s.pivot ∙ rw e, s.row)

-- ---- the elimination of row i, column by column

-- row i has its new entries in the columns before j, and nothing else of m₀ is changed
pub record SubtractedTo (f : Format) (n k i : ℕ) (x : Float) (m₀ m : List Float) (j : ℕ) : Type 0 where
  pub order : k < i
  pub row : i < n
  pub right : k < j
  pub within : j ≤ n
  pub lent : length m₀ ≡ n * n
  pub size : length m ≡ n * n
  pub list : m ≡ row_to n i (subtracted f n k i x m₀) m₀ j

pub subtracted_start : {f : Format} {n k i : ℕ} {x : Float} {m₀ : List Float} → k < i → i < n → length m₀ ≡ n * n → SubtractedTo f n k i x m₀ m₀ (k + 1)
subtracted_start {f} {n} {k} {i} {x} {m₀} a b l =
    record { order = a; row = b; right = omega arith; within = omega arith; lent = l; size = l; list = subtract_none f n k i x m₀ }

module _ {f : Format} {n k i : ℕ} {x : Float} {m₀ m : List Float} {j : ℕ} (s : SubtractedTo f n k i x m₀ m j) where
  pub subtracted_turn : {u v : Float} {m' : List Float} → j < n → u ≡ at n m i j → v ≡ at n m k j → m' ≡ set m (i * n + j) (sub f u (mul f x v)) → SubtractedTo f n k i x m₀ m' (j + 1)
  subtracted_turn {u} {v} {m'} h eu ev e = record {
    order = s.order;
    row = s.row;
    right = omega (arith, s.right);
    within = omega arith;
    lent = s.lent;
    size = ap length e ∙ length-set m (i * n + j) (sub f u (mul f x v)) ∙ s.size;
    list = subtract_turn f n k i x m₀ j m m' u v s.order s.row s.right h s.lent s.list eu ev e;
  }

  pub subtracted_end : n ≤ j → m ≡ with_row n i (subtracted f n k i x m₀) m₀
  unfolding with_row
  subtracted_end h = let e : j ≡ n = omega (arith, s.within) in s.list ∙ ap (row_to n i (subtracted f n k i x m₀) m₀) e

-- ---- the elimination of column k, row by row

-- the rows before i are eliminated, and nothing else of m₀ is changed; t is the reciprocal of the pivot
pub record EliminatedTo (f : Format) (n k : ℕ) (t : Float) (m₀ m : List Float) (i : ℕ) : Type 0 where
  pub below : k < i
  pub within : i ≤ n
  pub lent : length m₀ ≡ n * n
  pub size : length m ≡ n * n
  pub list : m ≡ rows_to n (eliminated_entry f n k t m₀) m₀ i

pub eliminated_start : {f : Format} {n k : ℕ} {t : Float} {m₀ : List Float} → k < n → length m₀ ≡ n * n → EliminatedTo f n k t m₀ m₀ (k + 1)
eliminated_start {f} {n} {k} {t} {m₀} h l =
    record { below = omega arith; within = omega arith; lent = l; size = l; list = eliminate_none f n k t m₀ }

module _ {f : Format} {n k : ℕ} {t : Float} {m₀ m : List Float} {i : ℕ} (s : EliminatedTo f n k t m₀ m i) where
  pub eliminated_turn : {m' : List Float} → i < n → m' ≡ with_row n i (reduced f n k t m i) m → EliminatedTo f n k t m₀ m' (i + 1)
  eliminated_turn {m'} h e =
      let next = eliminate_turn f n k t m₀ i m m' s.below h s.lent s.list e in
      record {
        below = omega (arith, s.below);
        within = omega arith;
        lent = s.lent;
        size = ap length next ∙ length-rows_to n (eliminated_entry f n k t m₀) m₀ (i + 1) ∙ s.lent;
        list = next;
      }

  pub eliminated_end : n ≤ i → t ≡ pivot_reciprocal f n k m₀ → m ≡ eliminated f n k m₀
  eliminated_end h e =
      let last : i ≡ n = omega (arith, s.within) in
      s.list ∙ ap (rows_to n (eliminated_entry f n k t m₀) m₀) last ∙ eliminate_all f n k t m₀ s.lent e
