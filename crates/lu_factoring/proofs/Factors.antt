-- LU of a matrix of order N that has a matrix of order n for its upper left corner, and zeros below that: the first n columns choose the same
-- pivots and do the same to the corner as LU of order n, and the later columns leave the corner alone. Assumes nothing.
use Rattle.std.specs.Prelude.{Ok, Err}
use mathlib.Core.Path.{◌≡◌, refl, sym, ap, ◌∙◌, subst}
use mathlib.Core.List.{List}
use mathlib.Core.Logic.{inl, inr}
use mathlib.Core.Bool.{Bool, true, false, not, cond, true≢false}
use Prim.Native.Nat.{ℕ, zero, suc, ◌+◌, ◌-◌, ◌*◌, ◌≤◌, ◌<◌}
use native.Mathlib.Nat.{le_refl, le-suc, le_trans, lt_of_lt_of_le, le_of_lt, zero-mul}
use native.Mathlib.Decide.{le_ind}
use native.Mathlib.Omega.{arith}
use lib.Dec.{T, ltb, eqb, nltb→le, lt→ltb, not_T, T_not, leb-suc-zero}
use lib.Ieee.{Float, nan, inf, fin, Format, up, down, sub, mul, div, lt, le}
use lib.Ieee.Fits.{eq→eqb}
use lib.Ieee.Bits.{is_false, is_true}
use lib.Arith.{lt_of_le-ne}
use Rattle.arithmetic_floats.specs.Float.{magnitude, one, Finite}
use Rattle.arithmetic_matrices.specs.Matrix.{at}
use Rattle.arithmetic_floats.proofs.Order.{split}
use Rattle.arithmetic_floats.proofs.Zero.{zero_of, Zero, mul_zero_left, sub_zeros}
use Rattle.arithmetic_matrices.proofs.MatrixLaws.{at-grid}
use Rattle.arithmetic_matrices.proofs.Corner.{Corner}
use Rattle.lu_factoring.specs.Lu.{LuOutcome, singular, pivot_among, pivot_row, tolerance, pivot_refused, exchange, swap_rows, pivot_reciprocal, reduced, eliminated_entry, eliminated, lu_at, lu_pivot, lu_from, lu_outcome, lu_factors}
use Rattle.lu_factoring.specs.Finite.{FiniteColumn, FiniteFactors}
use Rattle.lu_factoring.proofs.LuLaws.{pivot_from, pivot_row_in, exchange_in, exchange_other}

-- ---- the pivot search
zero_magnitude : (s : Bool) → magnitude (zero_of s) ≡ zero_of false
unfolding magnitude
zero_magnitude s = refl

none_below : (y : Float) → lt (magnitude y) (zero_of false) ≡ false
unfolding magnitude lt
none_below nan = refl
none_below (inf s) = refl
none_below (fin s zero e) = refl
none_below (fin s (suc m) e) = ap (λ (x : ℕ). ltb (suc m * up e * 1) x) (zero-mul (down e)) ∙ leb-suc-zero (suc m * up e * 1)

-- a zero never wins
zero_loses : (y z : Float) → Zero z → lt (magnitude y) (magnitude z) ≡ false
zero_loses y z o = ap (λ (x : Float). lt (magnitude y) (magnitude x)) o.1 ∙ ap (lt (magnitude y)) (zero_magnitude o.0) ∙ none_below y

further : (k d p : ℕ) → p ≤ k + d → p ≤ k + suc d
further k d p h = omega arith

before : (k d m p : ℕ) → k + suc d < m → p ≤ k + d → p < m
before k d m p h l = omega arith

among_same : (N n : ℕ) (A a : List Float) (k : ℕ) → ((i : ℕ) → i < n → at N A i k ≡ at n a i k) → (d : ℕ) → k + d < n → pivot_among N A k d ≡ pivot_among n a k d
unfolding pivot_among
among_same N n A a k e zero h = refl
among_same N n A a k e (suc d) h =
    let ih = among_same N n A a k e d (before k d n (k + d) h (le_refl (k + d))) in
    let v : at N A (pivot_among N A k d) k ≡ at n a (pivot_among n a k d) k = ap (λ (p : ℕ). at N A p k) ih ∙ e (pivot_among n a k d) (before k d n (pivot_among n a k d) h (pivot_from n a k d).1) in
    λ t. cond (lt (magnitude (v t)) (magnitude (e (k + suc d) h t))) (k + suc d) (ih t)

among_tail : (N : ℕ) (A : List Float) (k d D : ℕ) → d ≤ D → ((i : ℕ) → k + d < i → i ≤ k + D → Zero (at N A i k)) → pivot_among N A k D ≡ pivot_among N A k d
unfolding pivot_among
among_tail N A k d D l = le_ind (λ (m : ℕ). ((i : ℕ) → k + d < i → i ≤ k + m → Zero (at N A i k)) → pivot_among N A k m ≡ pivot_among N A k d) (λ z. refl) step D l
  where
    up_one : (m : ℕ) → d ≤ m → k + d < k + suc m
    up_one m h = omega arith

    step : (m : ℕ) → d ≤ m → (((i : ℕ) → k + d < i → i ≤ k + m → Zero (at N A i k)) → pivot_among N A k m ≡ pivot_among N A k d)
        → ((i : ℕ) → k + d < i → i ≤ k + suc m → Zero (at N A i k)) → pivot_among N A k (suc m) ≡ pivot_among N A k d
    step m a ih z =
        ap (λ (b : Bool). cond b (k + suc m) (pivot_among N A k m)) (zero_loses (at N A (pivot_among N A k m) k) (at N A (k + suc m) k) (z (k + suc m) (up_one m a) (le_refl (k + suc m))))
        ∙ ih (λ i p q. z i p (further k m i q))

-- ---- exchanging rows
pub apart : (i k n : ℕ) → i < n → n ≤ k → i ≡ k → ⊥
apart i k n p q e = omega arith

pub apart' : (i k n : ℕ) → n ≤ i → k < n → i ≡ k → ⊥
apart' i k n p q e = omega arith

at-swap_rows : (n k p : ℕ) (m : List Float) (i j : ℕ) → i < n → j < n → at n (swap_rows n k p m) i j ≡ at n m (exchange k p i) j
unfolding swap_rows
at-swap_rows n k p m i j I J = at-grid n n (λ i j. at n m (exchange k p i) j) i j I J

-- Entry (i, j) after column k is eliminated. Before that it is x; l is entry (i, k), d the pivot (k, k), and u is entry (k, j).
abbrev entry_after : Format → ℕ → ℕ → ℕ → Float → Float → Float → Float → Float
entry_after f k i j x l d u = cond (ltb k i) (cond (ltb j k) x (cond (eqb j k) (mul f l (div f one d)) (sub f x (mul f (mul f l (div f one d)) u)))) x

at-eliminated : (f : Format) (n k : ℕ) (m : List Float) (i j : ℕ) → i < n → j < n → at n (eliminated f n k m) i j ≡ entry_after f k i j (at n m i j) (at n m i k) (at n m k k) (at n m k j)
unfolding eliminated eliminated_entry reduced
at-eliminated f n k m i j I J = at-grid n n (eliminated_entry f n k (pivot_reciprocal f n k m) m) i j I J

-- an entry left of the column is left alone
entry_left : (f : Format) (k i j : ℕ) (x l d u : Float) → j < k → entry_after f k i j x l d u ≡ x
entry_left f k i j x l d u h =
    ap (λ (b : Bool). cond (ltb k i) (cond b x (cond (eqb j k) (mul f l (div f one d)) (sub f x (mul f (mul f l (div f one d)) u)))) x) (is_true (ltb j k) (lt→ltb j k h))
    ∙ both (ltb k i)
  where
    both : (b : Bool) → cond b x x ≡ x
    both true = refl
    both false = refl

entry_zero : (f : Format) (k i j : ℕ) (x l d u : Float) → Zero x → Zero l → Finite (mul f l (div f one d)) → (k < j → Finite (mul f (mul f l (div f one d)) u)) → Zero (entry_after f k i j x l d u)
entry_zero f k i j x l d u X L m p = go (ltb k i) (ltb j k) (eqb j k) (nltb→le j k) (λ t e. T_not (eqb j k) t (eq→eqb e))
  where
    mz : Zero (mul f l (div f one d))
    mz = mul_zero_left f l (div f one d) L m

    flip : (j ≡ k → ⊥) → k ≡ j → ⊥
    flip h e = h (sym e)

    go : (a b c : Bool) → (T (not b) → k ≤ j) → (T (not c) → j ≡ k → ⊥) → Zero (cond a (cond b x (cond c (mul f l (div f one d)) (sub f x (mul f (mul f l (div f one d)) u)))) x)
    go false b c s t = X
    go true true c s t = X
    go true false true s t = mz
    go true false false s t = sub_zeros f x (mul f (mul f l (div f one d)) u) X (mul_zero_left f (mul f l (div f one d)) u mz (p (lt_of_le-ne (s tt) (flip (t tt)))))

-- ---- every column passes
abbrev is_factored : LuOutcome → Bool
is_factored (Ok _) = true
is_factored (Err bad) = false

pub from_get : (f : Format) (n : ℕ) (a : List Float) (d k : ℕ) → lu_from f n a d k ≡ Ok tt → (j : ℕ) → k ≤ j → j < k + d → pivot_refused f n (lu_at f n a j) j ≡ false
unfolding lu_from
from_get f n a zero k h j l u = absurd (none k j l u)
  where
    none : (k j : ℕ) → k ≤ j → j < k + 0 → ⊥
    none k j l u = omega arith
from_get f n a (suc d) k h j l u = go (pivot_refused f n (lu_at f n a k) k) refl h (from_get f n a d (suc k))
  where
    next : k < j → j < suc k + d
    next g = omega arith

    go : (b : Bool) → pivot_refused f n (lu_at f n a k) k ≡ b → cond b (singular k) (lu_from f n a d (suc k)) ≡ Ok tt
        → (lu_from f n a d (suc k) ≡ Ok tt → (j : ℕ) → suc k ≤ j → j < suc k + d → pivot_refused f n (lu_at f n a j) j ≡ false) → pivot_refused f n (lu_at f n a j) j ≡ false
    go true e g ih = absurd (true≢false (sym (ap is_factored g)))
    go false e g ih = elim (split k j) [ inl p ↦ ih g j p (next p) | inr p ↦ subst (λ (x : ℕ). pivot_refused f n (lu_at f n a x) x ≡ false) (omega arith) e ]

pub from_make : (f : Format) (n : ℕ) (a : List Float) (d k : ℕ) → ((j : ℕ) → k ≤ j → j < k + d → pivot_refused f n (lu_at f n a j) j ≡ false) → lu_from f n a d k ≡ Ok tt
unfolding lu_from
from_make f n a zero k h = refl
from_make f n a (suc d) k h =
    ap (λ (b : Bool). cond b (singular k) (lu_from f n a d (suc k))) (h k (le_refl k) (first d))
    ∙ from_make f n a d (suc k) (λ j l u. h j (le_trans (le-suc k) l) (wider j u))
  where
    first : (d : ℕ) → k < k + suc d
    first d = omega arith

    wider : (j : ℕ) → j < suc k + d → j < k + suc d
    wider j u = omega arith

last_row : (k n i : ℕ) → k < n → i ≤ k + (n - suc k) → i < n
last_row k n i h l = omega arith

first_row : (k n i : ℕ) → k < n → k + (n - suc k) < i → n ≤ i
first_row k n i h l = omega arith

fewer : (k n N : ℕ) → n ≤ N → n - suc k ≤ N - suc k
fewer k n N h = omega arith

module _ (f : Format) (n N : ℕ) (n≤N : n ≤ N) where
  -- two rows of the corner
  swap_corner : (k p : ℕ) → k < n → p < n → (m M : List Float) → Corner n N m M → Corner n N (swap_rows n k p m) (swap_rows N k p M)
  swap_corner k p K P m M c = record {
    same = λ i j I J.
        at-swap_rows N k p M i j (lt_of_lt_of_le I n≤N) (lt_of_lt_of_le J n≤N)
        ∙ c.same (exchange k p i) j (exchange_in (λ (x : ℕ). x < n) k p i K P I) J
        ∙ sym (at-swap_rows n k p m i j I J);
    below = λ i j l u J.
        subst Zero (sym (at-swap_rows N k p M i j u (lt_of_lt_of_le J n≤N) ∙ ap (λ (x : ℕ). at N M x j) (exchange_other k p i (apart' i k n l K) (apart' i p n l P)))) (c.below i j l u J);
  }

  -- two rows below it
  swap_late : (k p : ℕ) → n ≤ k → k < N → n ≤ p → p < N → (m M : List Float) → Corner n N m M → Corner n N m (swap_rows N k p M)
  swap_late k p K K' P P' m M c = record {
    same = λ i j I J.
        at-swap_rows N k p M i j (lt_of_lt_of_le I n≤N) (lt_of_lt_of_le J n≤N)
        ∙ ap (λ (x : ℕ). at N M x j) (exchange_other k p i (apart i k n I K) (apart i p n I P))
        ∙ c.same i j I J;
    below = λ i j l u J.
        subst Zero (sym (at-swap_rows N k p M i j u (lt_of_lt_of_le J n≤N)))
        (c.below (exchange k p i) j (exchange_in (λ (x : ℕ). n ≤ x) k p i K P l) (exchange_in (λ (x : ℕ). x < N) k p i K' P' u) J);
  }

  eliminated_corner : (k : ℕ) → k < n → (m M : List Float) → Corner n N m M → FiniteColumn f N k M → Corner n N (eliminated f n k m) (eliminated f N k M)
  eliminated_corner k K m M c ok = record {
    same = λ i j I J.
        at-eliminated f N k M i j (lt_of_lt_of_le I n≤N) (lt_of_lt_of_le J n≤N)
        ∙ (λ t. entry_after f k i j (c.same i j I J t) (c.same i k I K t) (c.same k k K K t) (c.same k j K J t))
        ∙ sym (at-eliminated f n k m i j I J);
    below = λ i j l u J.
        let J' : j < N = lt_of_lt_of_le J n≤N in
        let h : k < i = lt_of_lt_of_le K l in
        subst Zero (sym (at-eliminated f N k M i j u J'))
        (entry_zero f k i j (at N M i j) (at N M i k) (at N M k k) (at N M k j) (c.below i j l u J) (c.below i k l u K) (ok.multipliers i h u) (λ g. ok.multiples i j h u g J'));
  }

  eliminated_late : (k : ℕ) → n ≤ k → (m M : List Float) → Corner n N m M → Corner n N m (eliminated f N k M)
  eliminated_late k K m M c = record {
    same = λ i j I J.
        at-eliminated f N k M i j (lt_of_lt_of_le I n≤N) (lt_of_lt_of_le J n≤N)
        ∙ entry_left f k i j (at N M i j) (at N M i k) (at N M k k) (at N M k j) (lt_of_lt_of_le J K)
        ∙ c.same i j I J;
    below = λ i j l u J.
        subst Zero (sym (at-eliminated f N k M i j u (lt_of_lt_of_le J n≤N) ∙ entry_left f k i j (at N M i j) (at N M i k) (at N M k k) (at N M k j) (lt_of_lt_of_le J K))) (c.below i j l u J);
  }

  pivot_row_corner : (k : ℕ) → k < n → (m M : List Float) → Corner n N m M → pivot_row N M k ≡ pivot_row n m k
  unfolding pivot_row
  pivot_row_corner k K m M c =
      among_tail N M k (n - suc k) (N - suc k) (fewer k n N n≤N) (λ i l u. c.below i k (first_row k n i K l) (last_row k N i (lt_of_lt_of_le K n≤N) u) K)
      ∙ among_same N n M m k (λ i l. c.same i k l K) (n - suc k) (last_row k n (k + (n - suc k)) K (le_refl (k + (n - suc k))))

  module _ (a A : List Float) (c : Corner n N a A) (ok : FiniteFactors f N A) where
    -- the first n columns
    pub lu_early : (k : ℕ) → k ≤ n → Corner n N (lu_at f n a k) (lu_at f N A k)
    unfolding lu_at
    lu_early zero h = c
    lu_early (suc k) h =
        let m = lu_at f n a k in
        let M = lu_at f N A k in
        let ih : Corner n N m M = lu_early k (le_trans (le-suc k) h) in
        let e : pivot_row N M k ≡ pivot_row n m k = pivot_row_corner k h m M ih in
        eliminated_corner k h (swap_rows n k (pivot_row n m k) m) (swap_rows N k (pivot_row N M k) M)
        (subst (λ (p : ℕ). Corner n N (swap_rows n k (pivot_row n m k) m) (swap_rows N k p M)) (sym e) (swap_corner k (pivot_row n m k) h (pivot_row_in n m k h).1 m M ih))
        (unfold lu_pivot in ok k (lt_of_lt_of_le h n≤N))

    -- the others
    pub lu_late : (k : ℕ) → n ≤ k → k ≤ N → Corner n N (lu_at f n a n) (lu_at f N A k)
    lu_late k l = le_ind (λ (k : ℕ). k ≤ N → Corner n N (lu_at f n a n) (lu_at f N A k)) (λ h. lu_early n (le_refl n)) step k l
      where
        step : (k : ℕ) → n ≤ k → (k ≤ N → Corner n N (lu_at f n a n) (lu_at f N A k)) → suc k ≤ N → Corner n N (lu_at f n a n) (lu_at f N A (suc k))
        step k K ih h =
            let m = lu_at f n a n in
            let M = lu_at f N A k in
            unfold lu_at in eliminated_late k K m (swap_rows N k (pivot_row N M k) M)
            (swap_late k (pivot_row N M k) K h (le_trans K (pivot_row_in N M k h).0) (pivot_row_in N M k h).1 m M (ih (le_trans (le-suc k) h)))

    pub factors_corner : Corner n N (lu_factors f n a) (lu_factors f N A)
    unfolding lu_factors
    factors_corner = lu_late N n≤N (le_refl N)

    -- the pivots
    pub pivot_early : (k : ℕ) → k < n → lu_pivot f N A k ≡ lu_pivot f n a k
    unfolding lu_pivot
    pivot_early k h = pivot_row_corner k h (lu_at f n a k) (lu_at f N A k) (lu_early k (le_of_lt h))

    -- a column that passes the test of order N passes that of order n, whose tolerance is no larger
    module _ (tol : (x : Float) → T (le (magnitude x) (tolerance f n)) → T (le (magnitude x) (tolerance f N))) where
      passes_early : (k : ℕ) → k < n → pivot_refused f N (lu_at f N A k) k ≡ false → pivot_refused f n (lu_at f n a k) k ≡ false
      unfolding pivot_refused
      passes_early k h t =
          let m = lu_at f n a k in
          let M = lu_at f N A k in
          let ih : Corner n N m M = lu_early k (le_of_lt h) in
          let x = at n m (pivot_row n m k) k in
          let e : at N M (pivot_row N M k) k ≡ x = ap (λ (p : ℕ). at N M p k) (pivot_row_corner k h m M ih) ∙ ih.same (pivot_row n m k) k (pivot_row_in n m k h).1 h in
          let t' : le (magnitude x) (tolerance f N) ≡ false = subst (λ (y : Float). le (magnitude y) (tolerance f N) ≡ false) e t in
          is_false (le (magnitude x) (tolerance f n)) (not_T (le (magnitude x) (tolerance f n)) (λ u. subst T t' (tol x u)))

      pub outcome_corner : lu_outcome f N A ≡ Ok tt → lu_outcome f n a ≡ Ok tt
      unfolding lu_outcome
      outcome_corner t = from_make f n a n zero (λ k l u. passes_early k (within k u) (from_get f N A N zero t k l (beyond k u)))
        where
          within : (k : ℕ) → k < 0 + n → k < n
          within k u = omega arith

          beyond : (k : ℕ) → k < 0 + n → k < 0 + N
          beyond k u = omega arith
