-- A matrix of order N that has a matrix of order n for its upper left corner, and zeros of either sign below that: products, scaling and squaring act
-- on the corner as on the matrix of order n alone, where each product that they form is finite. Assumes nothing.
use mathlib.Core.Path.{◌≡◌, refl, sym, ap, ◌∙◌, subst}
use mathlib.Core.List.{List}
use mathlib.Core.Logic.{inl, inr}
use mathlib.Core.Bool.{Bool, false, cond}
use Prim.Native.Nat.{ℕ, zero, suc, ◌+◌, ◌*◌, ◌≤◌, ◌<◌, zero-le}
use native.Mathlib.Nat.{le_refl, le-suc, le_trans, lt_of_lt_of_le}
use native.Mathlib.Decide.{le_ind}
use native.Mathlib.Omega.{arith}
use lib.Dec.{eqb, eqb→eq, not_T}
use lib.Ieee.{Float, Format, nan, mul}
use lib.Ieee.Fits.{mul-fits}
use lib.Ieee.Bits.{is_false}
use Rattle.arithmetic_floats.specs.Float.{one, +zero, Finite}
use Rattle.arithmetic_matrices.specs.Matrix.{at, item}
use Rattle.arithmetic_matrices.specs.Product.{dot, mul_m, times_m, diagonal_entry, diagonal_m, identity_m, squared}
use Rattle.arithmetic_matrices.specs.Finite.{FiniteProduct}
use Rattle.arithmetic_floats.proofs.Order.{split}
use Rattle.arithmetic_floats.proofs.Zero.{Zero, Plus, Fits, plus_of_positive, add_zero_right, add-plus, mul_zero_left, mul_zero_right}
use Rattle.arithmetic_matrices.proofs.MatrixLaws.{at-grid, get_or-tab, index_lt}
use Rattle.arithmetic_matrices.proofs.ProductLaws.{sum_fits, dot_cong}

pub record Corner (n N : ℕ) (a b : List Float) : Type 0 where
  pub same : (i j : ℕ) → i < n → j < n → at N b i j ≡ at n a i j
  pub below : (i j : ℕ) → n ≤ i → i < N → j < n → Zero (at N b i j)

-- ---- sums of products
pub dot_fits : (f : Format) (g h : ℕ → Float) (k : ℕ) → Fits f (dot f k g h)
unfolding dot
dot_fits f g h k = sum_fits f k _

pub dot_plus : (f : Format) (g h : ℕ → Float) (k : ℕ) → Plus (dot f k g h)
unfolding dot
dot_plus f g h zero = plus_of_positive 0 _
dot_plus f g h (suc k) = add-plus f (dot f k g h) (mul f (g k) (h k)) (dot_fits f g h k) (mul-fits f (g k) (h k)) (dot_plus f g h k)

pub dot_tail : (f : Format) (g h : ℕ → Float) (n N : ℕ) → n ≤ N → ((k : ℕ) → n ≤ k → k < N → Zero (mul f (g k) (h k))) → dot f N g h ≡ dot f n g h
unfolding dot
dot_tail f g h n N l = le_ind (λ (m : ℕ). ((k : ℕ) → n ≤ k → k < m → Zero (mul f (g k) (h k))) → dot f m g h ≡ dot f n g h) (λ z. refl) step N l
  where
    step : (m : ℕ) → n ≤ m → (((k : ℕ) → n ≤ k → k < m → Zero (mul f (g k) (h k))) → dot f m g h ≡ dot f n g h)
        → ((k : ℕ) → n ≤ k → k < suc m → Zero (mul f (g k) (h k))) → dot f (suc m) g h ≡ dot f n g h
    step m a ih z =
        add_zero_right f (dot f m g h) (mul f (g m) (h m)) (dot_fits f g h m) (dot_plus f g h m) (z m a (le_refl (suc m)))
        ∙ ih (λ k p q. z k p (le_trans q (le-suc m)))

pub dot_zero : (f : Format) (g h : ℕ → Float) (n : ℕ) → ((k : ℕ) → k < n → Zero (mul f (g k) (h k))) → dot f n g h ≡ +zero
unfolding dot
dot_zero f g h n z = dot_tail f g h 0 n zero-le (λ k p q. z k q)

-- ---- the entries of a product
pub at-product : (f : Format) (n : ℕ) (a b : List Float) (i j : ℕ) → i < n → j < n → at n (mul_m f n a b) i j ≡ dot f n (at n a i) (λ k. at n b k j)
unfolding mul_m
at-product f n a b i j p q = at-grid n n (λ i j. dot f n (at n a i) (λ k. at n b k j)) i j p q

module _ (f : Format) (n N : ℕ) (n≤N : n ≤ N) where
  pub product_corner : (a b A B : List Float) → Corner n N a A → Corner n N b B → FiniteProduct f N A B → Corner n N (mul_m f n a b) (mul_m f N A B)
  product_corner a b A B p q fin = record {
    same = λ i j I J.
        let I' : i < N = lt_of_lt_of_le I n≤N in
        let J' : j < N = lt_of_lt_of_le J n≤N in
        at-product f N A B i j I' J'
        ∙ dot_tail f (λ k. at N A i k) (λ k. at N B k j) n N n≤N (λ k l u. mul_zero_right f (at N A i k) (at N B k j) (q.below k j l u J) (fin i j I' J' k u).0)
        ∙ dot_cong f n (λ k. at N A i k) (λ k. at N B k j) (λ k. at n a i k) (λ k. at n b k j) (λ k l. p.same i k I l) (λ k l. q.same k j l J)
        ∙ sym (at-product f n a b i j I J);
    below = λ i j l u J.
        let J' : j < N = lt_of_lt_of_le J n≤N in
        (false, at-product f N A B i j u J' ∙ dot_zero f (λ k. at N A i k) (λ k. at N B k j) N (λ k v. each i j l u J k v (fin i j u J' k v).0));
  }
    where
      each : (i j : ℕ) → n ≤ i → i < N → j < n → (k : ℕ) → k < N → Finite (mul f (at N A i k) (at N B k j)) → Zero (mul f (at N A i k) (at N B k j))
      each i j l u J k v h = elim (split k n) [
        | inl x ↦ mul_zero_left f (at N A i k) (at N B k j) (p.below i k l u x) h
        | inr x ↦ mul_zero_right f (at N A i k) (at N B k j) (q.below k j x v J) h
      ]

  -- ---- powers
  not_same : (i j : ℕ) → n ≤ i → j < n → eqb i j ≡ false
  not_same i j p q = is_false (eqb i j) (not_T (eqb i j) (λ t. apart (eqb→eq i j t)))
    where
      apart : i ≡ j → ⊥
      apart e = omega arith

  pub identity_corner : Corner n N (identity_m n) (identity_m N)
  unfolding identity_m diagonal_m diagonal_entry
  identity_corner = record {
    same = λ i j I J.
        at-grid N N (diagonal_entry one) i j (lt_of_lt_of_le I n≤N) (lt_of_lt_of_le J n≤N)
        ∙ sym (at-grid n n (diagonal_entry one) i j I J);
    below = λ i j l u J.
        (false, at-grid N N (diagonal_entry one) i j u (lt_of_lt_of_le J n≤N) ∙ ap (λ (b : Bool). cond b one +zero) (not_same i j l J));
  }

  -- ---- scaling and squaring
  at_scale : (m : ℕ) (by : Float) (a : List Float) (i j : ℕ) → i < m → j < m → at m (times_m f m by a) i j ≡ mul f (at m a i j) by
  unfolding times_m at
  at_scale m by a i j I J = get_or-tab (m * m) (λ k. mul f (item a k) by) (i * m + j) nan (index_lt I J)

  pub scale_corner : (by : Float) (a A : List Float) → Corner n N a A → ((i j : ℕ) → i < N → j < N → Finite (mul f (at N A i j) by)) → Corner n N (times_m f n by a) (times_m f N by A)
  scale_corner by a A p fin = record {
    same = λ i j I J.
        at_scale N by A i j (lt_of_lt_of_le I n≤N) (lt_of_lt_of_le J n≤N)
        ∙ ap (λ (x : Float). mul f x by) (p.same i j I J)
        ∙ sym (at_scale n by a i j I J);
    below = λ i j l u J.
        let J' : j < N = lt_of_lt_of_le J n≤N in
        subst Zero (sym (at_scale N by A i j u J')) (mul_zero_left f (at N A i j) by (p.below i j l u J) (fin i j u J'));
  }

  pub squared_corner : (q Q : List Float) → Corner n N q Q → (s : ℕ) → ((r : ℕ) → r < s → FiniteProduct f N (squared f N r Q) (squared f N r Q)) → Corner n N (squared f n s q) (squared f N s Q)
  unfolding squared
  squared_corner q Q p zero fin = p
  squared_corner q Q p (suc s) fin =
      let ih = squared_corner q Q p s (λ r l. fin r (le_trans l (le-suc s))) in
      product_corner (squared f n s q) (squared f n s q) (squared f N s Q) (squared f N s Q) ih ih (fin s (le_refl (suc s)))
