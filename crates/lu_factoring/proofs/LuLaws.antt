-- Laws of the definitions of LU factoring (Lu.antt), over the format.
-- Assumes nothing.
use Rattle.std.specs.Prelude.{Ok}
use Prim.Native.Nat.{ℕ, zero, suc, ◌+◌, ◌-◌, ◌*◌, ◌≤◌, ◌<◌}
use mathlib.Core.Path.{◌≡◌, refl, sym, ap, ◌∙◌}
use mathlib.Core.Bool.{Bool, true, false, cond}
use mathlib.Core.List.{List}
use native.Mathlib.Omega.{arith}
use mathlib.Core.Logic.{⊎_elim}
use lib.ListN.{length, set, get_or, take, drop, length-set}
use borrow.Rule.Slice.PartMut.{put_mid}
use lib.Dec.{eqb}
use lib.Ieee.{Float, nan, Format, lt, le, mul, sub}
use lib.Seq.{get_or-set_other}
use borrow.Author.Tests.{lt-ltb, le-ltb, le-leb, lt-leb, eq-eqb, ne_eqb}
use Rattle.arithmetic_floats.specs.Float.{magnitude}
use Rattle.arithmetic_matrices.specs.Matrix.{at, part, put}
use Rattle.arithmetic_matrices.specs.Kernels.{with_row, row_to, rows_to, patch}
use Rattle.arithmetic_floats.proofs.Order.{split, same_or_not}
use Rattle.arithmetic_matrices.proofs.MatrixLaws.{get_or-tab, index_lt, length-grid, at_set_same, at_set_other}
use Rattle.arithmetic_matrices.proofs.PatchLaws.{patch_is, patch_more, patch_in, patch_below, patch_above, length-patch, row_none, row_more, row_skip, row_right, row_above, rows_none, rows_skip, rows_more, rows_all, rows_new, rows_old}
use Rattle.arithmetic_matrices.proofs.PartLaws.{lent, returned, length_part}
use Rattle.lu_factoring.specs.Lu.{LuOutcome, singular, pivot_among, exchange, swap_rows, pivot_reciprocal, reduced, eliminated_entry, eliminated, tolerance, pivot_refused, pivot_row, lu_at, lu_pivot, lu_from, lu_outcome, lu_pivots}
use Rattle.lu_factoring.specs.Kernels.{subtracted, columns_done, LuDone, LuDoneIn}
use native.Mathlib.Numerals.{add-one}

-- ---- the pivot's search

-- One row more. The test says whether row i has the larger magnitude.
pub pivot_step : (n : ℕ) (a : List Float) (k i p : ℕ) (b : Bool) → k < i → p ≡ pivot_among n a k (i - suc k)
    → lt (magnitude (at n a p k)) (magnitude (at n a i k)) ≡ b → cond b i p ≡ pivot_among n a k (i + 1 - suc k)
unfolding pivot_among
pivot_step n a k i p b h e t =
    let d = i - suc k in
    let next : i + 1 - suc k ≡ suc (i - suc k) = omega arith in
    let row : k + suc (i - suc k) ≡ i = omega arith in
    rw (next, row, ← e, t)

-- ---- the swap of two rows

-- what holds of k, of p and of i holds of the row that stands in i's place
pub exchange_in : (P : ℕ → Type 0) (k p i : ℕ) → P k → P p → P i → P (exchange k p i)
unfolding exchange
exchange_in P k p i a b c = go (eqb i k) (eqb i p)
  where
    go : (s t : Bool) → P (cond s p (cond t k i))
    go true t = b
    go false true = a
    go false false = c

pub exchange_first : (k p : ℕ) → exchange k p k ≡ p
unfolding exchange
exchange_first k p = rw (eq-eqb k k refl)

pub exchange_second : (k p : ℕ) → exchange k p p ≡ k
unfolding exchange
exchange_second k p = ⊎_elim (λ e. rw (eq-eqb p k e, e)) (λ d. rw (ne_eqb p k d, eq-eqb p p refl)) (same_or_not p k)

pub exchange_other : (k p r : ℕ) → (r ≡ k → ⊥) → (r ≡ p → ⊥) → exchange k p r ≡ r
unfolding exchange
exchange_other k p r d e = rw (ne_eqb r k d, ne_eqb r p e)

-- ---- the elimination of one row, column by column

module _ (f : Format) (n k i : ℕ) (x : Float) (a : List Float) where
  -- up to column k nothing changes
  pub subtract_none : a ≡ row_to n i (subtracted f n k i x a) a (k + 1)
  unfolding subtracted
  subtract_none =
      row_none n i (subtracted f n k i x a) a
      ∙ row_skip n i (subtracted f n k i x a) a 0 (k + 1) (omega arith) (λ c u v. rw (le-leb c k (omega arith)))

  -- one turn of the loop
  pub subtract_turn : (j : ℕ) (m m1 : List Float) (u v : Float) → k < i → i < n → k < j → j < n → length a ≡ n * n
      → m ≡ row_to n i (subtracted f n k i x a) a j → u ≡ at n m i j → v ≡ at n m k j
      → m1 ≡ set m (i * n + j) (sub f u (mul f x v)) → m1 ≡ row_to n i (subtracted f n k i x a) a (j + 1)
  unfolding subtracted
  subtract_turn j m m1 u v hk hi hj hn size e eu ev e1 =
      let h = subtracted f n k i x a in
      let w : i * n + j < length a = rw size (index_lt hi hn) in
      let w' : k * n + j < length a = rw size (index_lt (omega arith) hn) in
      let right : u ≡ at n a i j = eu ∙ ap (λ l. at n l i j) e ∙ row_right n i h a j j (omega arith) w in
      let above : v ≡ at n a k j = ev ∙ ap (λ l. at n l k j) e ∙ row_above n i h a j k j hk hn w' in
      let now : h j ≡ sub f (at n a i j) (mul f x (at n a k j)) = rw (lt-leb j k hj) in
      e1 ∙ rw (e, right, above, ← now) (row_more n i h a j w)

-- the row with its multiplier stored first
pub reduce_row : (f : Format) (n k i : ℕ) (t x : Float) (a : List Float) → k < i → i < n → length a ≡ n * n → x ≡ mul f (at n a i k) t
    → with_row n i (subtracted f n k i x (set a (i * n + k) x)) (set a (i * n + k) x) ≡ with_row n i (reduced f n k t a i) a
unfolding with_row row_to reduced subtracted
reduce_row f n k i t x a hk hi size ex =
    patch_is nan (i * n) (i * n + n) (λ q. reduced f n k t a i (q - i * n)) a (patch (i * n) (i * n + n) (λ q. h (q - i * n)) b) (length-patch (i * n) (i * n + n) (λ q. h (q - i * n)) b ∙ same)
    (λ q u v w. patch_in (i * n) (i * n + n) (λ q. h (q - i * n)) b q nan u v (rw same w) ∙ entry (q - i * n) (omega arith))
    (λ q u w. patch_below (i * n) (i * n + n) (λ q. h (q - i * n)) b q nan u (rw same w) ∙ get_or-set_other a (i * n + k) q x nan (omega arith))
    (λ q u v w. patch_above (i * n) (i * n + n) (λ q. h (q - i * n)) b q nan u v (rw same w) ∙ get_or-set_other a (i * n + k) q x nan (omega arith))
  where
    b : List Float
    b = set a (i * n + k) x

    h : ℕ → Float
    h = subtracted f n k i x b

    same : length b ≡ length a
    same = length-set a (i * n + k) x

    other : (r c : ℕ) → c < n → (r ≡ i → c ≡ k → ⊥) → at n b r c ≡ at n a r c
    other r c u d = at_set_other n a i k x r c (omega arith) u d

    entry : (c : ℕ) → c < n → h c ≡ reduced f n k t a i c
    entry c u =
        ⊎_elim (λ w. rw (le-leb c k (omega arith), lt-ltb c k w) (other i c u (λ p q. omega arith)))
        (λ w.
        ⊎_elim (λ (e : c ≡ k). rw (e, le-leb k k (omega arith), le-ltb k k (omega arith), eq-eqb k k refl, ← ex) (at_set_same n a i k x (rw size (index_lt hi (omega arith)))))
        (λ (d : c ≡ k → ⊥).
        rw (lt-leb c k (omega arith), le-ltb c k w, ne_eqb c k d, ← ex, other i c u (λ p q. d q), other k c u (λ p q. omega arith)))
        (same_or_not c k))
        (split c k)

-- the same, of the lists and the numbers as the code has them: u is the entry, x the multiplier, a1 the matrix with it, a2 the matrix at the end
pub reduce_is : (f : Format) (n k i : ℕ) (t u x : Float) (a a1 a2 : List Float) → k < i → i < n → length a ≡ n * n → u ≡ at n a i k → x ≡ mul f u t
    → a1 ≡ set a (i * n + k) x → a2 ≡ with_row n i (subtracted f n k i x a1) a1 → a2 ≡ with_row n i (reduced f n k t a i) a
reduce_is f n k i t u x a a1 a2 hk hi size eu ex e1 e2 = e2 ∙ rw e1 (reduce_row f n k i t x a hk hi size (ex ∙ rw eu))

-- ---- the elimination of all rows

-- an entry of the row depends on its own row and on row k alone
pub reduced_same : (f : Format) (n k : ℕ) (t : Float) (a b : List Float) (i j : ℕ)
    → at n a i k ≡ at n b i k → at n a i j ≡ at n b i j → at n a k j ≡ at n b k j → reduced f n k t a i j ≡ reduced f n k t b i j
unfolding reduced
reduced_same f n k t a b i j p q r = rw (p, q, r)

module _ (f : Format) (n k : ℕ) (t : Float) (a : List Float) where
  pub eliminate_none : a ≡ rows_to n (eliminated_entry f n k t a) a (k + 1)
  unfolding eliminated_entry
  eliminate_none =
      rows_none n (eliminated_entry f n k t a) a
      ∙ rows_skip n (eliminated_entry f n k t a) a 0 (k + 1) (omega arith) (λ r c u v w. rw (le-ltb k r (omega arith)))

  pub eliminate_turn : (i : ℕ) (m m1 : List Float) → k < i → i < n → length a ≡ n * n → m ≡ rows_to n (eliminated_entry f n k t a) a i
      → m1 ≡ with_row n i (reduced f n k t m i) m → m1 ≡ rows_to n (eliminated_entry f n k t a) a (i + 1)
  unfolding eliminated_entry
  eliminate_turn i m m1 hk hi size e e1 = e1 ∙ rw e (rows_more n F a (reduced f n k t (rows_to n F a i) i) i same)
    where
      F : ℕ → ℕ → Float
      F = eliminated_entry f n k t a

      old : (c : ℕ) → c < n → at n (rows_to n F a i) i c ≡ at n a i c
      old c u = rows_old n F a i i c (omega arith) (rw size (index_lt hi u))

      top : (c : ℕ) → c < n → at n (rows_to n F a i) k c ≡ at n a k c
      top c u = rows_new n F a i k c hk u (rw size (index_lt (omega arith) u)) ∙ rw (le-ltb k k (omega arith))

      same : (c : ℕ) → c < n → reduced f n k t (rows_to n F a i) i c ≡ F i c
      same c u = reduced_same f n k t (rows_to n F a i) a i c (old k (omega arith)) (old c u) (top c u) ∙ rw (lt-ltb k i hk)

  pub eliminate_all : length a ≡ n * n → t ≡ pivot_reciprocal f n k a → rows_to n (eliminated_entry f n k t a) a n ≡ eliminated f n k a
  unfolding eliminated eliminated_entry
  eliminate_all size e = rows_all n (eliminated_entry f n k t a) a n size ∙ rw e

-- ---- all columns

pub length-eliminated : (f : Format) (n k : ℕ) (a : List Float) → length (eliminated f n k a) ≡ n * n
unfolding eliminated
length-eliminated f n k a = length-grid n n _

module _ (f : Format) (n : ℕ) (a : List Float) where
  -- one column more
  pub lu_turn : (k p : ℕ) (m m1 m2 : List Float) → m ≡ lu_at f n a k → p ≡ pivot_row n m k → m1 ≡ swap_rows n k p m → m2 ≡ eliminated f n k m1 → m2 ≡ lu_at f n a (k + 1)
  unfolding lu_at
  lu_turn k p m m1 m2 e ep e1 e2 = rw (e2, e1, ep, e, add-one)

  pub pivots_turn : (ps₀ ps ps1 : List ℕ) (k p : ℕ) (m : List Float) → k < length ps₀ → m ≡ lu_at f n a k → p ≡ pivot_row n m k
      → ps ≡ patch 0 k (lu_pivot f n a) ps₀ → ps1 ≡ set ps k p → ps1 ≡ patch 0 (k + 1) (lu_pivot f n a) ps₀
  unfolding lu_pivot
  pivots_turn ps₀ ps ps1 k p m h e ep eps e1 = rw (e1, eps, ep, e) (patch_more 0 0 (lu_pivot f n a) ps₀ k (omega arith) h)

  -- the test of the pivot, as the code has it
  pub refused_is : (k p : ℕ) (m : List Float) (u v t : Float) (b : Bool) → m ≡ lu_at f n a k → p ≡ pivot_row n m k → u ≡ at n m p k → v ≡ magnitude u → t ≡ tolerance f n
      → le v t ≡ b → pivot_refused f n (lu_at f n a k) k ≡ b
  unfolding pivot_refused
  refused_is k p m u v t b e ep eu ev et h = rw (← e, ← ep, ← eu, ← ev, ← et) h

  -- a column that passes, one that is refused, and no column left
  pub pass : (k : ℕ) → k < n → pivot_refused f n (lu_at f n a k) k ≡ false → lu_outcome f n a ≡ lu_from f n a (n - k) k → lu_outcome f n a ≡ lu_from f n a (n - (k + 1)) (k + 1)
  unfolding lu_from
  pass k h t e =
      let d : n - k ≡ suc (n - (k + 1)) = omega arith in
      e ∙ rw (d, add-one) (rw t refl)

  pub refuse : (k : ℕ) → k < n → pivot_refused f n (lu_at f n a k) k ≡ true → lu_outcome f n a ≡ lu_from f n a (n - k) k → singular k ≡ lu_outcome f n a
  unfolding lu_from
  refuse k h t e =
      let d : n - k ≡ suc (n - (k + 1)) = omega arith in
      sym (e ∙ rw d (rw t refl))

  pub finish : (k : ℕ) → n ≤ k → lu_outcome f n a ≡ lu_from f n a (n - k) k → Ok tt ≡ lu_outcome f n a
  unfolding lu_from
  finish k h e =
      let d : n - k ≡ 0 = omega arith in
      sym (e ∙ rw d refl)

-- ---- what callers use

pub length-lu_at : (f : Format) (n : ℕ) (a : List Float) (k : ℕ) → length a ≡ n * n → length (lu_at f n a k) ≡ n * n
unfolding lu_at
length-lu_at f n a zero e = e
length-lu_at f n a (suc k) e = length-eliminated f n k _

-- a matrix that stands in w from index off, lent as a part of w and given back
pub done_in : (f : Format) (n off : ℕ) (w : List Float) (ps : List ℕ) (m : List Float) (ps' : List ℕ) (r : LuOutcome) → off + n * n ≤ length w
    → LuDone f n (take (off + n * n - off) (drop off w)) ps m ps' r → LuDoneIn f n off w ps (put_mid off (off + n * n - off) w m) ps' r
done_in f n off w ps m ps' r h d =
    let e = lent w off (n * n) h in
    let e' : m ≡ lu_at f n (part w off (n * n)) (columns_done n r) = d.factors ∙ ap (λ (a : List Float). lu_at f n a (columns_done n r)) e in
    let size : length m ≡ n * n = ap length e' ∙ length-lu_at f n (part w off (n * n)) (columns_done n r) (length_part w off (n * n)) in
    record {
      outcome = d.outcome ∙ ap (lu_outcome f n) e;
      factors = returned w m off (n * n) size h ∙ ap (put w off) e';
      pivots = d.pivots ∙ ap (λ (a : List Float). patch 0 (columns_done n r) (lu_pivot f n a) ps) e;
    }

-- the row found among the rows from k to k + d is one of them
pub pivot_from : (n : ℕ) (a : List Float) (k d : ℕ) → (k ≤ pivot_among n a k d) × (pivot_among n a k d ≤ k + d)
unfolding pivot_among
pivot_from n a k zero = (omega arith, omega arith)
pivot_from n a k (suc d) = go (lt (magnitude (at n a (pivot_among n a k d) k)) (magnitude (at n a (k + suc d) k))) (pivot_from n a k d)
  where
    go : (b : Bool) → (k ≤ pivot_among n a k d) × (pivot_among n a k d ≤ k + d)
        → (k ≤ cond b (k + suc d) (pivot_among n a k d)) × (cond b (k + suc d) (pivot_among n a k d) ≤ k + suc d)
    go true h = (omega arith, omega arith)
    go false h = (omega arith, omega arith)

-- the pivot of column k is a row from k to n - 1
pub pivot_row_in : (n : ℕ) (a : List Float) (k : ℕ) → k < n → (k ≤ pivot_row n a k) × (pivot_row n a k < n)
unfolding pivot_row
pivot_row_in n a k h = let p = pivot_from n a k (n - suc k) in (p.0, omega arith)

-- each pivot of the list is a row from its column down
pub pivots_in : (f : Format) (n : ℕ) (a : List Float) (k : ℕ) → k < n → (k ≤ get_or (lu_pivots f n a) k 0) × (get_or (lu_pivots f n a) k 0 < n)
unfolding lu_pivots lu_pivot
pivots_in f n a k h = rw (get_or-tab n (lu_pivot f n a) k 0 h) (pivot_row_in n (lu_at f n a k) k h)
