-- The Padé quotient and the exponential of a matrix of order N that has a matrix of order n for its upper left corner, and zeros below that: they act on
-- the corner as on the matrix of order n alone, where each number that they form is finite and LU accepts the denominator. Assumes nothing.
use Rattle.std.specs.Prelude.{Ok, Err}
use mathlib.Core.Path.{◌≡◌, refl, sym, ◌∙◌, subst, subst₂}
use mathlib.Core.List.{List}
use mathlib.Core.Bool.{false}
use Prim.Native.Nat.{ℕ, zero, suc, ◌*◌, ◌^◌, ◌≤◌, ◌<◌}
use native.Mathlib.Nat.{lt_of_lt_of_le}
use native.Mathlib.Omega.{arith}
use lib.ListN.{length}
use lib.Ieee.{Float, Format, prec}
use Rattle.arithmetic_floats.specs.Float.{inverse_power_of_two}
use Rattle.arithmetic_matrices.specs.Matrix.{at, item, column}
use Rattle.arithmetic_matrices.specs.Product.{dot}
use Rattle.arithmetic_floats.proofs.Zero.{mul_zero_right, Fits, Plus, Zero}
use Rattle.arithmetic_matrices.proofs.MatrixLaws.{at-grid, item-column, length-grid}
use Rattle.arithmetic_matrices.proofs.ProductLaws.{dot_cong, length-squared}
use Rattle.arithmetic_matrices.proofs.Corner.{Corner, product_corner, identity_corner, dot_zero, dot_fits, dot_plus, scale_corner, squared_corner}
use Rattle.lu_factoring.specs.Lu.{LuOutcome, lu_factors, lu_pivots, lu_outcome}
use Rattle.lu_factoring.specs.Solve.{stand_in, quotient, solution, solved_matrix}
use Rattle.lu_factoring.specs.Finite.{FiniteFactors, FiniteSolution}
use Rattle.lu_factoring.proofs.Tolerance.{tolerance_mono}
use Rattle.lu_factoring.proofs.Factors.{outcome_corner}
use Rattle.lu_factoring.proofs.Solution.{Sound, Top, solution_top}
use Rattle.functions_definitions.specs.Exponential.{power, combination, numerator, denominator, coefficient, flipped, pade, exponential, scaled, combination_to}
use Rattle.functions_definitions.specs.Finite.{FinitePowers, FiniteCombination, FinitePade, FiniteRun}

module _ (f : Format) (n N : ℕ) (n≤N : n ≤ N) where
  -- ---- powers

  two_less : (k : ℕ) → suc (suc k) < 14 → k < 12
  two_less k h = omega arith

  one_less : (k : ℕ) → suc k < 14 → k < 14
  one_less k h = omega arith

  pub power_corner : (a A : List Float) → Corner n N a A → FinitePowers f N A → (k : ℕ) → k < 14 → Corner n N (power f n a k) (power f N A k)
  unfolding power
  power_corner a A c fin zero h = identity_corner f n N n≤N
  power_corner a A c fin (suc zero) h = c
  power_corner a A c fin (suc (suc k)) h =
      product_corner f n N n≤N (power f n a (suc k)) a (power f N A (suc k)) A (power_corner a A c fin (suc k) (one_less (suc k) h)) c (fin k (two_less k h))

  -- ---- the Padé numerator and denominator, by their coefficients
  pub at-combination : (m : ℕ) (c : ℕ → Float) (a : List Float) (i j : ℕ) → i < m → j < m → at m (combination f m c a) i j ≡ dot f 14 c (λ k. at m (power f m a k) i j)
  unfolding combination combination_to
  at-combination m c a i j p q = at-grid m m (λ i j. dot f 14 c (λ k. at m (power f m a k) i j)) i j p q

  pub combination_corner : (c : ℕ → Float) (a A : List Float) → Corner n N a A → FinitePowers f N A → FiniteCombination f N c A → Corner n N (combination f n c a) (combination f N c A)
  combination_corner c a A p fin sums = record {
    same = λ i j I J.
        at-combination N c A i j (lt_of_lt_of_le I n≤N) (lt_of_lt_of_le J n≤N)
        ∙ dot_cong f 14 c (λ k. at N (power f N A k) i j) c (λ k. at n (power f n a k) i j) (λ k l. refl) (λ k l. (power_corner a A p fin k l).same i j I J)
        ∙ sym (at-combination n c a i j I J);
    below = λ i j l u J.
        let J' : j < N = lt_of_lt_of_le J n≤N in
        (false, at-combination N c A i j u J' ∙ dot_zero f c (λ k. at N (power f N A k) i j) 14 (λ k v. mul_zero_right f (c k) (at N (power f N A k) i j) ((power_corner a A p fin k v).below i j l u J) (sums i j u J' k v).0));
  }

  -- ---- the quotient and the exponential

  -- a column of the Padé numerator is a column of sums from +0
  numerator_sound : (a : List Float) (j : ℕ) → j < n → Sound f n (column n n (numerator f n a) j)
  unfolding numerator
  numerator_sound a j J i I =
      let e : item (column n n (combination f n (coefficient f) a) j) i ≡ dot f 14 (coefficient f) (λ k. at n (power f n a k) i j) =
      item-column n n (combination f n (coefficient f) a) j i I ∙ at-combination n (coefficient f) a i j I J in
      subst (λ (z : Float). Fits f z × Plus z) (sym e) (dot_fits f (coefficient f) (λ k. at n (power f n a k) i j) 14, dot_plus f (coefficient f) (λ k. at n (power f n a k) i j) 14)

  quotient_corner : (d D b B : List Float) → Corner n N d D → FiniteFactors f N D → Corner n N b B → ((j : ℕ) → j < n → Sound f n (column n n b j))
      → ((j : ℕ) → j < N → FiniteSolution f N (lu_factors f N D) (lu_pivots f N D) (column N N B j)) → Corner n N (quotient f n d b) (quotient f N D B)
  unfolding quotient solved_matrix solution
  quotient_corner d D b B cd fd cb s ok =
      let top : (j : ℕ) → j < n → Top n N (solution f n d b j) (solution f N D B j) = λ j J. solution_top f n N n≤N d D b B cd fd cb j J (s j J) (ok j (lt_of_lt_of_le J n≤N)) in
      record {
        same = λ i j I J.
            at-grid N N (λ i j. item (solution f N D B j) i) i j (lt_of_lt_of_le I n≤N) (lt_of_lt_of_le J n≤N)
            ∙ (top j J).same i I
            ∙ sym (at-grid n n (λ i j. item (solution f n d b j) i) i j I J);
        below = λ i j l u J.
            subst Zero (sym (at-grid N N (λ i j. item (solution f N D B j) i) i j u (lt_of_lt_of_le J n≤N))) ((top j J).below i l u);
      }

  module _ (few : N ≤ 2 ^ prec f) where
    pade_corner : (a A : List Float) → Corner n N a A → FinitePade f N A → lu_outcome f N (denominator f N A) ≡ Ok tt → Corner n N (pade f n a) (pade f N A)
    unfolding pade
    pade_corner a A c ok acc =
        let cn : Corner n N (numerator f n a) (numerator f N A) = unfold numerator in combination_corner (coefficient f) a A c ok.powers ok.above in
        let cd : Corner n N (denominator f n a) (denominator f N A) = unfold denominator in combination_corner (flipped f) a A c ok.powers ok.under in
        let acc' : lu_outcome f n (denominator f n a) ≡ Ok tt = outcome_corner f n N n≤N (denominator f n a) (denominator f N A) cd ok.factors (tolerance_mono f n N n≤N few) acc in
        let q = quotient f n (denominator f n a) (numerator f n a) in
        let Q = quotient f N (denominator f N A) (numerator f N A) in
        subst₂ (λ (o O : LuOutcome). Corner n N (stand_in o q (numerator f n a)) (stand_in O Q (numerator f N A))) (sym acc') (sym acc)
        (quotient_corner (denominator f n a) (denominator f N A) (numerator f n a) (numerator f N A) cd ok.factors cn (numerator_sound a) ok.columns)

    pub exponential_corner : (s : ℕ) (a A : List Float) → Corner n N a A → FiniteRun f N s A → lu_outcome f N (denominator f N (scaled f N s A)) ≡ Ok tt → Corner n N (exponential f n s a) (exponential f N s A)
    unfolding exponential
    exponential_corner s a A c ok acc =
        let cs : Corner n N (scaled f n s a) (scaled f N s A) = unfold scaled in scale_corner f n N n≤N (inverse_power_of_two s) a A c ok.entries in
        squared_corner f n N n≤N (pade f n (scaled f n s a)) (pade f N (scaled f N s A)) (pade_corner (scaled f n s a) (scaled f N s A) cs ok.approximant acc) s ok.squares

-- ---- lengths

pub length-pade : (f : Format) (n : ℕ) (a : List Float) → length (pade f n a) ≡ n * n
unfolding pade
length-pade f n a = go (lu_outcome f n (denominator f n a))
  where
    go : (o : LuOutcome) → length (stand_in o (quotient f n (denominator f n a) (numerator f n a)) (numerator f n a)) ≡ n * n
    go (Ok _) = unfold quotient solved_matrix solution in length-grid n n (λ i j. item (solution f n (denominator f n a) (numerator f n a) j) i)
    go (Err bad) = unfold numerator combination combination_to in length-grid n n (λ i j. dot f 14 (coefficient f) (λ k. at n (power f n a k) i j))

pub length-exponential : (f : Format) (n s : ℕ) (a : List Float) → length (exponential f n s a) ≡ n * n
unfolding exponential
length-exponential f n s a = length-squared f n (pade f n (scaled f n s a)) (length-pade f n (scaled f n s a)) s
