-- The proviso of demand 3 as a test that computes, and that what it accepts is a `FiniteRun`: so the proviso holds of runs that one can name.
use Rattle.std.specs.Prelude.{◌≡◌, List, Bool, true, false, ◌&&◌, ◌||◌, ◌⊎◌, ℕ, zero, suc, ◌-◌, ◌≤◌, ◌<◌, T, leb, Float}
use Rattle.std.proofs.Common.{subst, inl, inr, arith, leb→le}
use Rattle.std.specs.Float.{Format}
use Rattle.std.specs.Float.Ieee.{mul}
use Rattle.std.specs.Float.Ieee.Fits.{and_l, and_r}
use Rattle.std.specs.Float.Ieee.Scale.{finite}
use Rattle.arithmetic_floats.specs.Float.{inverse_power_of_two}
use Rattle.arithmetic_matrices.specs.Matrix.{at, item, column}
use Rattle.arithmetic_matrices.specs.Product.{dot, squared}
use Rattle.arithmetic_matrices.specs.Finite.{FiniteDot, FiniteProduct}
use Rattle.arithmetic_floats.proofs.Order.{split}
use Rattle.lu_factoring.specs.Lu.{swap_rows, pivot_reciprocal, multiplier, multiple, less_multiple, lu_at, lu_pivot, lu_factors, lu_pivots}
use Rattle.lu_factoring.specs.Solve.{permuted, term, less_term, unknown, forward, back}
use Rattle.lu_factoring.specs.Finite.{FiniteColumn, FiniteForwardStep, FiniteForward, FiniteBackStep, FiniteSolution}
use Rattle.functions_definitions.specs.Exponential.{power, coefficient, flipped, numerator, denominator, pade, scaled}
use Rattle.functions_definitions.specs.Finite.{FiniteCombination, FinitePade, FiniteRun}

-- ---- the test

-- p 0, .., p (n - 1) hold
unfoldable pub every : ℕ → (ℕ → Bool) → Bool
every zero p = true
every (suc n) p = every n p && p n

abbrev pub every_pair : ℕ → (ℕ → ℕ → Bool) → Bool
every_pair n p = every n (λ i. every n (p i))

unfoldable pub finite_dot : Format → ℕ → (ℕ → Float) → (ℕ → Float) → Bool
finite_dot f n g h = every n (λ k. finite (mul f (g k) (h k)) && finite (dot f (suc k) g h))

unfoldable pub finite_product : Format → ℕ → List Float → List Float → Bool
finite_product f n a b = every_pair n (λ i j. finite_dot f n (at n a i) (λ k. at n b k j))

unfoldable pub finite_combination : Format → ℕ → (ℕ → Float) → List Float → Bool
finite_combination f n c a = every_pair n (λ i j. finite_dot f 14 c (λ k. at n (power f n a k) i j))

-- one column of LU: what lies at or above its pivot's row, or left of its column, is not asked, nor the reciprocal where no row lies below
unfoldable pub finite_column : Format → ℕ → ℕ → List Float → Bool
finite_column f n k a =
    let t = pivot_reciprocal f n k a in
    ((leb n (suc k) || finite t) && every n (λ i. leb i k || finite (multiplier f n k t a i)))
    && every_pair n (λ i j. leb i k || (leb j k || (finite (multiple f n k t a i j) && finite (less_multiple f n k t a i j))))

unfoldable pub finite_forward_step : Format → ℕ → List Float → ℕ → List Float → Bool
finite_forward_step f n F k x = every n (λ i. leb i k || (finite (term f n F k (item x k) i) && finite (less_term f n F k (item x k) x i)))

unfoldable pub finite_forward : Format → ℕ → List Float → List Float → Bool
finite_forward f n F x = every n (λ k. finite_forward_step f n F k (forward f n F x k))

unfoldable pub finite_back_step : Format → ℕ → List Float → ℕ → List Float → Bool
finite_back_step f n F k x =
    let q = unknown f n F k x in
    finite q && every k (λ i. finite (term f n F k q i) && finite (less_term f n F k q x i))

unfoldable pub finite_solution : Format → ℕ → List Float → List ℕ → List Float → Bool
finite_solution f n F ps x =
    finite_forward f n F (permuted n ps x n)
    && every n (λ d. finite_back_step f n F (n - suc d) (back f n F (forward f n F (permuted n ps x n) n) d))

unfoldable pub finite_pade : Format → ℕ → List Float → Bool
finite_pade f n a =
    let d = denominator f n a in
    (every 12 (λ k. finite_product f n (power f n a (suc k)) a) && finite_combination f n (coefficient f) a)
    && finite_combination f n (flipped f) a
    && every n (λ k. finite_column f n k (swap_rows n k (lu_pivot f n d k) (lu_at f n d k)))
    && every n (λ j. finite_solution f n (lu_factors f n d) (lu_pivots f n d) (column n n (numerator f n a) j))

unfoldable pub finite_run : Format → ℕ → ℕ → List Float → Bool
finite_run f n s a =
    let b = scaled f n s a in
    (every_pair n (λ i j. finite (mul f (at n a i j) (inverse_power_of_two s))) && finite_pade f n b)
    && every s (λ r. finite_product f n (squared f n r (pade f n b)) (squared f n r (pade f n b)))

-- ---- what each test says

every_get : (n : ℕ) (p : ℕ → Bool) → T (every n p) → (k : ℕ) → k < n → T (p k)
unfolding every
every_get zero p t k h = absurd (omega arith)
every_get (suc n) p t k h = go (split k n) (every_get n p (and_l (every n p) (p n) t) k)
  where
    go : (k < n) ⊎ (n ≤ k) → (k < n → T (p k)) → T (p k)
    go (inl l) rest = rest l
    go (inr l) rest = let e : n ≡ k = omega arith in subst (λ (x : ℕ). T (p x)) e (and_r (every n p) (p n) t)

pair_get : (n : ℕ) (p : ℕ → ℕ → Bool) → T (every_pair n p) → (i j : ℕ) → i < n → j < n → T (p i j)
pair_get n p t i j I J = every_get n (p i) (every_get n (λ i. every n (p i)) t i I) j J

-- i is past k, or else nothing is asked
past : (k i : ℕ) (b : Bool) → T (leb i k || b) → k < i → T b
past k i b t h = go (leb i k) (leb→le i k) t
  where
    go : (c : Bool) → (T c → i ≤ k) → T (c || b) → T b
    go true l t = let below = l tt in absurd (omega arith)
    go false l t = t

dot_ok : (f : Format) (n : ℕ) (g h : ℕ → Float) → T (finite_dot f n g h) → FiniteDot f n g h
unfolding finite_dot
dot_ok f n g h t k l =
    let p = every_get n (λ k. finite (mul f (g k) (h k)) && finite (dot f (suc k) g h)) t k l in
    (and_l (finite (mul f (g k) (h k))) (finite (dot f (suc k) g h)) p, and_r (finite (mul f (g k) (h k))) (finite (dot f (suc k) g h)) p)

product_ok : (f : Format) (n : ℕ) (a b : List Float) → T (finite_product f n a b) → FiniteProduct f n a b
unfolding finite_product
product_ok f n a b t i j I J = dot_ok f n (at n a i) (λ k. at n b k j) (pair_get n (λ i j. finite_dot f n (at n a i) (λ k. at n b k j)) t i j I J)

combination_ok : (f : Format) (n : ℕ) (c : ℕ → Float) (a : List Float) → T (finite_combination f n c a) → FiniteCombination f n c a
unfolding finite_combination
combination_ok f n c a t i j I J = dot_ok f 14 c (λ k. at n (power f n a k) i j) (pair_get n (λ i j. finite_dot f 14 c (λ k. at n (power f n a k) i j)) t i j I J)

column_ok : (f : Format) (n k : ℕ) (a : List Float) → T (finite_column f n k a) → FiniteColumn f n k a
unfolding finite_column
column_ok f n k a ok =
    let t = pivot_reciprocal f n k a in
    let r : Bool = leb n (suc k) || finite t in
    let mult : ℕ → Bool = λ i. leb i k || finite (multiplier f n k t a i) in
    let x : ℕ → ℕ → Bool = λ i j. finite (multiple f n k t a i j) in
    let y : ℕ → ℕ → Bool = λ i j. finite (less_multiple f n k t a i j) in
    let rest : ℕ → ℕ → Bool = λ i j. leb i k || (leb j k || (x i j && y i j)) in
    let first = and_l (r && every n mult) (every_pair n rest) ok in
    let both : (i j : ℕ) → k < i → i < n → k < j → j < n → T (x i j && y i j) =
    λ i j h I g J. past k j (x i j && y i j) (past k i (leb j k || (x i j && y i j)) (pair_get n rest (and_r (r && every n mult) (every_pair n rest) ok) i j I J) h) g in
    record {
      reciprocal = past (suc k) n (finite t) (and_l r (every n mult) first);
      multipliers = λ i h I. past k i (finite (multiplier f n k t a i)) (every_get n mult (and_r r (every n mult) first) i I) h;
      multiples = λ i j h I g J. and_l (x i j) (y i j) (both i j h I g J);
      differences = λ i j h I g J. and_r (x i j) (y i j) (both i j h I g J);
    }

forward_step_ok : (f : Format) (n : ℕ) (F : List Float) (k : ℕ) (x : List Float) → T (finite_forward_step f n F k x) → FiniteForwardStep f n F k x
unfolding finite_forward_step
forward_step_ok f n F k x t =
    let a : ℕ → Bool = λ i. finite (term f n F k (item x k) i) in
    let b : ℕ → Bool = λ i. finite (less_term f n F k (item x k) x i) in
    let both : (i : ℕ) → k < i → i < n → T (a i && b i) = λ i h I. past k i (a i && b i) (every_get n (λ i. leb i k || (a i && b i)) t i I) h in
    record { terms = λ i h I. and_l (a i) (b i) (both i h I); differences = λ i h I. and_r (a i) (b i) (both i h I) }

forward_ok : (f : Format) (n : ℕ) (F x : List Float) → T (finite_forward f n F x) → FiniteForward f n F x
unfolding finite_forward
forward_ok f n F x t k K = forward_step_ok f n F k (forward f n F x k) (every_get n (λ k. finite_forward_step f n F k (forward f n F x k)) t k K)

back_step_ok : (f : Format) (n : ℕ) (F : List Float) (k : ℕ) (x : List Float) → T (finite_back_step f n F k x) → FiniteBackStep f n F k x
unfolding finite_back_step
back_step_ok f n F k x t =
    let q = unknown f n F k x in
    let a : ℕ → Bool = λ i. finite (term f n F k q i) in
    let b : ℕ → Bool = λ i. finite (less_term f n F k q x i) in
    let both = and_r (finite q) (every k (λ i. a i && b i)) t in
    record {
      quotient = and_l (finite q) (every k (λ i. a i && b i)) t;
      terms = λ i l. and_l (a i) (b i) (every_get k (λ i. a i && b i) both i l);
      differences = λ i l. and_r (a i) (b i) (every_get k (λ i. a i && b i) both i l);
    }

solution_ok : (f : Format) (n : ℕ) (F : List Float) (ps : List ℕ) (x : List Float) → T (finite_solution f n F ps x) → FiniteSolution f n F ps x
unfolding finite_solution
solution_ok f n F ps x t =
    let y = permuted n ps x n in
    let z = forward f n F y n in
    let p : ℕ → Bool = λ d. finite_back_step f n F (n - suc d) (back f n F z d) in
    record {
      forwards = forward_ok f n F y (and_l (finite_forward f n F y) (every n p) t);
      backwards = λ d l. back_step_ok f n F (n - suc d) (back f n F z d) (every_get n p (and_r (finite_forward f n F y) (every n p) t) d l);
    }

pade_ok : (f : Format) (n : ℕ) (a : List Float) → T (finite_pade f n a) → FinitePade f n a
unfolding finite_pade
pade_ok f n a t =
    let d = denominator f n a in
    let p1 : ℕ → Bool = λ k. finite_product f n (power f n a (suc k)) a in
    let x1 = every 12 p1 in
    let x2 = finite_combination f n (coefficient f) a in
    let x3 = finite_combination f n (flipped f) a in
    let p4 : ℕ → Bool = λ k. finite_column f n k (swap_rows n k (lu_pivot f n d k) (lu_at f n d k)) in
    let x4 = every n p4 in
    let p5 : ℕ → Bool = λ j. finite_solution f n (lu_factors f n d) (lu_pivots f n d) (column n n (numerator f n a) j) in
    let x5 = every n p5 in
    let t4 = and_l (x1 && x2 && x3 && x4) x5 t in
    let t3 = and_l (x1 && x2 && x3) x4 t4 in
    let t2 = and_l (x1 && x2) x3 t3 in
    record {
      powers = λ k l. product_ok f n (power f n a (suc k)) a (every_get 12 p1 (and_l x1 x2 t2) k l);
      above = combination_ok f n (coefficient f) a (and_r x1 x2 t2);
      under = combination_ok f n (flipped f) a (and_r (x1 && x2) x3 t3);
      factors = λ k l. column_ok f n k (swap_rows n k (lu_pivot f n d k) (lu_at f n d k)) (every_get n p4 (and_r (x1 && x2 && x3) x4 t4) k l);
      columns = λ j J. solution_ok f n (lu_factors f n d) (lu_pivots f n d) (column n n (numerator f n a) j) (every_get n p5 (and_r (x1 && x2 && x3 && x4) x5 t) j J);
    }

pub run_ok : (f : Format) (n s : ℕ) (a : List Float) → T (finite_run f n s a) → FiniteRun f n s a
unfolding finite_run
run_ok f n s a t =
    let b = scaled f n s a in
    let x : ℕ → ℕ → Bool = λ i j. finite (mul f (at n a i j) (inverse_power_of_two s)) in
    let y = finite_pade f n b in
    let p : ℕ → Bool = λ r. finite_product f n (squared f n r (pade f n b)) (squared f n r (pade f n b)) in
    let t1 = and_l (every_pair n x && y) (every s p) t in
    record {
      entries = pair_get n x (and_l (every_pair n x) y t1);
      approximant = pade_ok f n b (and_r (every_pair n x) y t1);
      squares = λ r l. product_ok f n (squared f n r (pade f n b)) (squared f n r (pade f n b)) (every_get s p (and_r (every_pair n x && y) (every s p) t) r l);
    }
