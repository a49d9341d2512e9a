-- Solving with the factors of a matrix of order N that has a matrix of order n for its upper left corner: where the right-hand side is zero
-- below row n, the first n unknowns are those of the system of order n, and the others are zeros. Assumes nothing.
use mathlib.Core.Path.{◌≡◌, sym, ap, ◌∙◌, subst}
use mathlib.Core.List.{List}
use mathlib.Core.Bool.{Bool, true, false, cond}
use Prim.Native.Nat.{ℕ, zero, suc, ◌+◌, ◌-◌, ◌≤◌, ◌<◌}
use native.Mathlib.Nat.{le_refl, le-suc, le_trans, lt_of_lt_of_le, le_of_lt, suc-add}
use native.Mathlib.Decide.{le_ind}
use native.Mathlib.Omega.{arith}
use lib.ListN.{get_or}
use lib.Dec.{T, ltb, eqb, eqb→eq, ltb→lt, lt→ltb, not_T}
use lib.Arith.{le→nltb}
use lib.Ieee.{Float, nan, Format, sub, mul, div}
use lib.Ieee.Fits.{sub-fits, mul-fits}
use lib.Ieee.Bits.{is_false, is_true}
use Rattle.arithmetic_matrices.specs.Matrix.{tab, at, item, column}
use Rattle.arithmetic_floats.proofs.Zero.{Zero, Plus, Fits, mul_zero_left, mul_zero_right, div_zero_left, sub_zeros, sub-plus, sub_zero_right}
use Rattle.arithmetic_matrices.proofs.MatrixLaws.{get_or-tab, item-column}
use Rattle.arithmetic_matrices.proofs.Corner.{Corner}
use Rattle.lu_factoring.specs.Lu.{exchange, lu_pivot, lu_factors, lu_pivots}
use Rattle.lu_factoring.specs.Solve.{swap_items, permuted, forward_step, forward, back_step, back, solved, solution}
use Rattle.lu_factoring.specs.Finite.{FiniteFactors, FiniteForward, FiniteBackStep, FiniteBack, FiniteSolution}
use Rattle.lu_factoring.proofs.LuLaws.{exchange_in, exchange_other, pivots_in}
use Rattle.lu_factoring.proofs.Factors.{apart, apart', factors_corner, pivot_early}

-- X, of N numbers, begins with the n numbers of x, and the others are zeros
pub record Top (n N : ℕ) (x X : List Float) : Type 0 where
  pub same : (i : ℕ) → i < n → item X i ≡ item x i
  pub below : (i : ℕ) → n ≤ i → i < N → Zero (item X i)

-- numbers of the format that are not -0: to subtract a zero from one changes nothing
abbrev pub Sound : Format → ℕ → List Float → Type 0
Sound f n x = (i : ℕ) → i < n → Fits f (item x i) × Plus (item x i)

pick : {X : Type 0} (P : X → Type 0) (b : Bool) (x y : X) → (T b → P x) → P y → P (cond b x y)
pick P true x y h k = h tt
pick P false x y h k = k

pub item-tab : (n : ℕ) (g : ℕ → Float) (i : ℕ) → i < n → item (tab n g) i ≡ g i
item-tab n g i I = get_or-tab n g i nan I

module _ (f : Format) (n N : ℕ) (n≤N : n ≤ N) where
  up_to : {i : ℕ} → i < n → i < N
  up_to h = lt_of_lt_of_le h n≤N

  -- ---- the exchanges
  module _ (p P : List ℕ) (x X : List Float) (c : Top n N x X) (early : (k : ℕ) → k < n → get_or P k 0 ≡ get_or p k 0) (inside : (k : ℕ) → k < n → get_or p k 0 < n)
      (outside : (k : ℕ) → n ≤ k → k < N → (n ≤ get_or P k 0) × (get_or P k 0 < N)) where
    permuted_early : (k : ℕ) → k ≤ n → Top n N (permuted n p x k) (permuted N P X k)
    unfolding permuted swap_items
    permuted_early zero h = c
    permuted_early (suc k) h =
        let y = permuted n p x k in
        let Y = permuted N P X k in
        let q : ℕ = get_or p k 0 in
        let ih : Top n N y Y = permuted_early k (le_trans (le-suc k) h) in
        record {
          same = λ i I.
              item-tab N (λ i. item Y (exchange k (get_or P k 0) i)) i (up_to I)
              ∙ ap (λ (z : ℕ). item Y (exchange k z i)) (early k h)
              ∙ ih.same (exchange k q i) (exchange_in (λ (z : ℕ). z < n) k q i h (inside k h) I)
              ∙ sym (item-tab n (λ i. item y (exchange k q i)) i I);
          below = λ i l u.
              subst Zero
              (sym (item-tab N (λ i. item Y (exchange k (get_or P k 0) i)) i u ∙ ap (λ (z : ℕ). item Y (exchange k z i)) (early k h)
              ∙ ap (item Y) (exchange_other k q i (apart' i k n l h) (apart' i q n l (inside k h)))))
              (ih.below i l u);
        }

    permuted_late : (k : ℕ) → n ≤ k → k ≤ N → Top n N (permuted n p x n) (permuted N P X k)
    unfolding permuted swap_items
    permuted_late k l = le_ind (λ (k : ℕ). k ≤ N → Top n N (permuted n p x n) (permuted N P X k)) (λ h. permuted_early n (le_refl n)) step k l
      where
        step : (k : ℕ) → n ≤ k → (k ≤ N → Top n N (permuted n p x n) (permuted N P X k)) → suc k ≤ N → Top n N (permuted n p x n) (permuted N P X (suc k))
        step k K ih' h =
            let Y = permuted N P X k in
            let q : ℕ = get_or P k 0 in
            let ih : Top n N (permuted n p x n) Y = ih' (le_trans (le-suc k) h) in
            let o = outside k K h in
            record {
              same = λ i I.
                  item-tab N (λ i. item Y (exchange k q i)) i (up_to I)
                  ∙ ap (item Y) (exchange_other k q i (apart i k n I K) (apart i q n I o.0))
                  ∙ ih.same i I;
              below = λ i l u.
                  subst Zero (sym (item-tab N (λ i. item Y (exchange k q i)) i u))
                  (ih.below (exchange k q i) (exchange_in (λ (z : ℕ). n ≤ z) k q i K o.0 l) (exchange_in (λ (z : ℕ). z < N) k q i h o.1 u));
            }

    permuted_sound : Sound f n x → (k : ℕ) → k ≤ n → Sound f n (permuted n p x k)
    unfolding permuted swap_items
    permuted_sound s zero h i I = s i I
    permuted_sound s (suc k) h i I =
        let y = permuted n p x k in
        subst (λ (z : Float). Fits f z × Plus z) (sym (item-tab n (λ i. item y (exchange k (get_or p k 0) i)) i I))
        (permuted_sound s k (le_trans (le-suc k) h) (exchange k (get_or p k 0) i) (exchange_in (λ (z : ℕ). z < n) k (get_or p k 0) i h (inside k h) I))

  -- ---- forward substitution
  module _ (m M : List Float) (d : Corner n N m M) where
    module _ (x X : List Float) (c : Top n N x X) (ok : FiniteForward f N M X) where
      forward_early : (k : ℕ) → k ≤ n → Top n N (forward f n m x k) (forward f N M X k)
      unfolding forward forward_step
      forward_early zero h = c
      forward_early (suc k) h =
          let y = forward f n m x k in
          let Y = forward f N M X k in
          let ih : Top n N y Y = forward_early k (le_trans (le-suc k) h) in
          record {
            same = λ i I.
                item-tab N (λ i. cond (ltb k i) (sub f (item Y i) (mul f (at N M i k) (item Y k))) (item Y i)) i (up_to I)
                ∙ (λ t. cond (ltb k i) (sub f (ih.same i I t) (mul f (d.same i k I h t) (ih.same k h t))) (ih.same i I t))
                ∙ sym (item-tab n (λ i. cond (ltb k i) (sub f (item y i) (mul f (at n m i k) (item y k))) (item y i)) i I);
            below = λ i l u.
                subst Zero (sym (item-tab N (λ i. cond (ltb k i) (sub f (item Y i) (mul f (at N M i k) (item Y k))) (item Y i)) i u))
                (pick Zero (ltb k i) (sub f (item Y i) (mul f (at N M i k) (item Y k))) (item Y i)
                (λ t. sub_zeros f (item Y i) (mul f (at N M i k) (item Y k)) (ih.below i l u)
                (mul_zero_left f (at N M i k) (item Y k) (d.below i k l u h) ((ok k (up_to h)).terms i (lt_of_lt_of_le h l) u)))
                (ih.below i l u));
          }

      forward_late : (k : ℕ) → n ≤ k → k ≤ N → Top n N (forward f n m x n) (forward f N M X k)
      forward_late k l = le_ind (λ (k : ℕ). k ≤ N → Top n N (forward f n m x n) (forward f N M X k)) (λ h. forward_early n (le_refl n)) step k l
        where
          step : (k : ℕ) → n ≤ k → (k ≤ N → Top n N (forward f n m x n) (forward f N M X k)) → suc k ≤ N → Top n N (forward f n m x n) (forward f N M X (suc k))
          step k K ih' h =
              let Y = forward f N M X k in
              let ih : Top n N (forward f n m x n) Y = ih' (le_trans (le-suc k) h) in
              unfold forward forward_step in record {
                same = λ i I.
                    item-tab N (λ i. cond (ltb k i) (sub f (item Y i) (mul f (at N M i k) (item Y k))) (item Y i)) i (up_to I)
                    ∙ ap (λ (b : Bool). cond b (sub f (item Y i) (mul f (at N M i k) (item Y k))) (item Y i)) (is_false (ltb k i) (le→nltb k i (le_of_lt (lt_of_lt_of_le I K))))
                    ∙ ih.same i I;
                below = λ i l u.
                    subst Zero (sym (item-tab N (λ i. cond (ltb k i) (sub f (item Y i) (mul f (at N M i k) (item Y k))) (item Y i)) i u))
                    (pick Zero (ltb k i) (sub f (item Y i) (mul f (at N M i k) (item Y k))) (item Y i)
                    (λ t. sub_zeros f (item Y i) (mul f (at N M i k) (item Y k)) (ih.below i l u)
                    (mul_zero_right f (at N M i k) (item Y k) (ih.below k K h) ((ok k h).terms i (ltb→lt k i t) u)))
                    (ih.below i l u));
              }

    forward_sound : (x : List Float) → Sound f n x → (k : ℕ) → Sound f n (forward f n m x k)
    unfolding forward forward_step
    forward_sound x s zero i I = s i I
    forward_sound x s (suc k) i I =
        let y = forward f n m x k in
        let ih = forward_sound x s k i I in
        subst (λ (z : Float). Fits f z × Plus z) (sym (item-tab n (λ i. cond (ltb k i) (sub f (item y i) (mul f (at n m i k) (item y k))) (item y i)) i I))
        (pick (λ (z : Float). Fits f z × Plus z) (ltb k i) (sub f (item y i) (mul f (at n m i k) (item y k))) (item y i)
        (λ t. (sub-fits f (item y i) (mul f (at n m i k) (item y k)), sub-plus f (item y i) (mul f (at n m i k) (item y k)) ih.0 (mul-fits f (at n m i k) (item y k)) ih.1))
        ih)

    -- ---- back substitution
    -- a row below the corner: the unknown is a zero, and the corner stays
    back_step_late : (k : ℕ) → n ≤ k → k < N → (x X : List Float) → Top n N x X → Sound f n x → FiniteBackStep f N M k X → Top n N x (back_step f N M k X)
    unfolding back_step
    back_step_late k K h x X c s ok =
        let q = div f (item X k) (at N M k k) in
        let Q : Zero q = div_zero_left f (item X k) (at N M k k) (c.below k K h) ok.quotient in
        let g : ℕ → Float = λ i. cond (eqb i k) q (cond (ltb i k) (sub f (item X i) (mul f (at N M i k) q)) (item X i)) in
        record {
          same = λ i I.
              let l : i < k = lt_of_lt_of_le I K in
              item-tab N g i (up_to I)
              ∙ ap (λ (b : Bool). cond b q (cond (ltb i k) (sub f (item X i) (mul f (at N M i k) q)) (item X i))) (is_false (eqb i k) (not_T (eqb i k) (λ t. apart i k n I K (eqb→eq i k t))))
              ∙ ap (λ (b : Bool). cond b (sub f (item X i) (mul f (at N M i k) q)) (item X i)) (is_true (ltb i k) (lt→ltb i k l))
              ∙ ap (λ (z : Float). sub f z (mul f (at N M i k) q)) (c.same i I)
              ∙ sub_zero_right f (item x i) (mul f (at N M i k) q) (s i I).0 (s i I).1 (mul_zero_right f (at N M i k) q Q (ok.terms i l));
          below = λ i l u.
              subst Zero (sym (item-tab N g i u))
              (pick Zero (eqb i k) q (cond (ltb i k) (sub f (item X i) (mul f (at N M i k) q)) (item X i)) (λ e. Q)
              (pick Zero (ltb i k) (sub f (item X i) (mul f (at N M i k) q)) (item X i)
              (λ t. sub_zeros f (item X i) (mul f (at N M i k) q) (c.below i l u) (mul_zero_right f (at N M i k) q Q (ok.terms i (ltb→lt i k t))))
              (c.below i l u)));
        }

    -- a row of the corner: the zeros below it stay
    back_step_early : (k : ℕ) → k < n → (x X : List Float) → Top n N x X → Top n N (back_step f n m k x) (back_step f N M k X)
    unfolding back_step
    back_step_early k h x X c =
        let g : ℕ → Float = λ i. cond (eqb i k) (div f (item x k) (at n m k k)) (cond (ltb i k) (sub f (item x i) (mul f (at n m i k) (div f (item x k) (at n m k k)))) (item x i)) in
        let G : ℕ → Float = λ i. cond (eqb i k) (div f (item X k) (at N M k k)) (cond (ltb i k) (sub f (item X i) (mul f (at N M i k) (div f (item X k) (at N M k k)))) (item X i)) in
        record {
          same = λ i I.
              item-tab N G i (up_to I)
              ∙ (λ t. cond (eqb i k) (div f (c.same k h t) (d.same k k h h t)) (cond (ltb i k) (sub f (c.same i I t) (mul f (d.same i k I h t) (div f (c.same k h t) (d.same k k h h t)))) (c.same i I t)))
              ∙ sym (item-tab n g i I);
          below = λ i l u.
              subst Zero
              (sym (item-tab N G i u
              ∙ ap (λ (b : Bool). cond b (div f (item X k) (at N M k k)) (cond (ltb i k) (sub f (item X i) (mul f (at N M i k) (div f (item X k) (at N M k k)))) (item X i))) (is_false (eqb i k) (not_T (eqb i k) (λ t. apart' i k n l h (eqb→eq i k t))))
              ∙ ap (λ (b : Bool). cond b (sub f (item X i) (mul f (at N M i k) (div f (item X k) (at N M k k)))) (item X i)) (is_false (ltb i k) (le→nltb i k (le_of_lt (lt_of_lt_of_le h l))))))
              (c.below i l u);
        }

    module _ (x X : List Float) (c : Top n N x X) (s : Sound f n x) (ok : FiniteBack f N M X) where
      -- the last N - n rows
      back_late : (D : ℕ) → D ≤ N - n → Top n N x (back f N M X D)
      unfolding back
      back_late zero h = c
      back_late (suc D) h = back_step_late (N - suc D) (low D h) (high D h) x (back f N M X D) (back_late D (le_trans (le-suc D) h)) s (ok D (bound D h))
        where
          low : (D : ℕ) → suc D ≤ N - n → n ≤ N - suc D
          low D h = omega arith

          high : (D : ℕ) → suc D ≤ N - n → N - suc D < N
          high D h = omega arith

          bound : (D : ℕ) → suc D ≤ N - n → D < N
          bound D h = omega arith

      -- and then the others
      back_early : (e : ℕ) → e ≤ n → Top n N (back f n m x e) (back f N M X (e + (N - n)))
      unfolding back
      back_early zero h = subst (λ (D : ℕ). Top n N x (back f N M X D)) (start N n) (back_late (N - n) (le_refl (N - n)))
        where
          start : (N n : ℕ) → N - n ≡ 0 + (N - n)
          start N n = omega arith
      back_early (suc e) h =
          subst (λ (D : ℕ). Top n N (back_step f n m (n - suc e) (back f n m x e)) (back f N M X D)) (sym (suc-add e (N - n)))
          (subst (λ (k : ℕ). Top n N (back_step f n m (n - suc e) (back f n m x e)) (back_step f N M k (back f N M X (e + (N - n))))) (sym (row e h))
          (back_step_early (n - suc e) (inner e h) (back f n m x e) (back f N M X (e + (N - n))) (back_early e (le_trans (le-suc e) h))))
        where
          row : (e : ℕ) → suc e ≤ n → N - suc (e + (N - n)) ≡ n - suc e
          row e h = omega arith

          inner : (e : ℕ) → suc e ≤ n → n - suc e < n
          inner e h = omega arith

      back_top : Top n N (back f n m x n) (back f N M X N)
      back_top = subst (λ (D : ℕ). Top n N (back f n m x n) (back f N M X D)) (whole N n n≤N) (back_early n (le_refl n))
        where
          whole : (N n : ℕ) → n ≤ N → n + (N - n) ≡ N
          whole N n h = omega arith

  -- ---- the whole solution of a column
  pub solution_top : (d D b B : List Float) → Corner n N d D → FiniteFactors f N D → Corner n N b B → (j : ℕ) → j < n → Sound f n (column n n b j)
      → FiniteSolution f N (lu_factors f N D) (lu_pivots f N D) (column N N B j) → Top n N (solution f n d b j) (solution f N D B j)
  unfolding solution solved
  solution_top d D b B cd fd cb j J s ok =
      let m = lu_factors f n d in
      let M = lu_factors f N D in
      let cm : Corner n N m M = factors_corner f n N n≤N d D cd fd in
      let start : Top n N (column n n b j) (column N N B j) = record {
        same = λ i I. item-column N N B j i (up_to I) ∙ cb.same i j I J ∙ sym (item-column n n b j i I);
        below = λ i l u. subst Zero (sym (item-column N N B j i u)) (cb.below i j l u J);
      } in
      let small : (k : ℕ) → k < n → get_or (lu_pivots f n d) k 0 ≡ lu_pivot f n d k = λ k h. unfold lu_pivots in get_or-tab n (lu_pivot f n d) k 0 h in
      let large : (k : ℕ) → k < N → get_or (lu_pivots f N D) k 0 ≡ lu_pivot f N D k = λ k h. unfold lu_pivots in get_or-tab N (lu_pivot f N D) k 0 h in
      let early : (k : ℕ) → k < n → get_or (lu_pivots f N D) k 0 ≡ get_or (lu_pivots f n d) k 0 = λ k h. large k (up_to h) ∙ pivot_early f n N n≤N d D cd fd k h ∙ sym (small k h) in
      let inside : (k : ℕ) → k < n → get_or (lu_pivots f n d) k 0 < n = λ k h. (pivots_in f n d k h).1 in
      let outside : (k : ℕ) → n ≤ k → k < N → (n ≤ get_or (lu_pivots f N D) k 0) × (get_or (lu_pivots f N D) k 0 < N) = λ k l h. (le_trans l (pivots_in f N D k h).0, (pivots_in f N D k h).1) in
      let x = permuted n (lu_pivots f n d) (column n n b j) n in
      let X = permuted N (lu_pivots f N D) (column N N B j) N in
      let tx : Top n N x X = permuted_late (lu_pivots f n d) (lu_pivots f N D) (column n n b j) (column N N B j) start early inside outside N n≤N (le_refl N) in
      let sx : Sound f n x = permuted_sound (lu_pivots f n d) (lu_pivots f N D) (column n n b j) (column N N B j) start early inside outside s n (le_refl n) in
      let ty : Top n N (forward f n m x n) (forward f N M X N) = forward_late m M cm x X tx ok.forwards N n≤N (le_refl N) in
      let sy : Sound f n (forward f n m x n) = forward_sound m M cm x sx n in
      back_top m M cm (forward f n m x n) (forward f N M X N) ty sy ok.backwards
