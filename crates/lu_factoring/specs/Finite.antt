-- Every number that LU and a solution form is finite. Each predicate stands for one definition, and names the results of its operations and
-- nothing else; the tolerance of the pivot test depends on no entry, and is not named. Definitions only.
use Rattle.std.specs.Prelude.{ℕ, suc, ◌-◌, ◌<◌, List, Float}
use Rattle.std.specs.Float.{Format}
use Rattle.arithmetic_floats.specs.Float.{Finite}
use Rattle.arithmetic_matrices.specs.Matrix.{item}
use Rattle.lu_factoring.specs.Lu.{swap_rows, pivot_reciprocal, multiplier, multiple, less_multiple, lu_at, lu_pivot}
use Rattle.lu_factoring.specs.Solve.{permuted, term, less_term, unknown, forward, back}

-- `eliminated`: column k of the matrix a, whose rows are exchanged. The reciprocal is used where there is a row below row k.
pub record FiniteColumn (f : Format) (n k : ℕ) (a : List Float) : Type 0 where
  pub reciprocal : suc k < n → Finite (pivot_reciprocal f n k a)
  pub multipliers : (i : ℕ) → k < i → i < n → Finite (multiplier f n k (pivot_reciprocal f n k a) a i)
  pub multiples : (i j : ℕ) → k < i → i < n → k < j → j < n → Finite (multiple f n k (pivot_reciprocal f n k a) a i j)
  pub differences : (i j : ℕ) → k < i → i < n → k < j → j < n → Finite (less_multiple f n k (pivot_reciprocal f n k a) a i j)

-- `lu_factors`
abbrev pub FiniteFactors : Format → ℕ → List Float → Type 0
FiniteFactors f n a = (k : ℕ) → k < n → FiniteColumn f n k (swap_rows n k (lu_pivot f n a k) (lu_at f n a k))

-- `forward_step`
pub record FiniteForwardStep (f : Format) (n : ℕ) (F : List Float) (k : ℕ) (x : List Float) : Type 0 where
  pub terms : (i : ℕ) → k < i → i < n → Finite (term f n F k (item x k) i)
  pub differences : (i : ℕ) → k < i → i < n → Finite (less_term f n F k (item x k) x i)

-- `forward`, all columns
abbrev pub FiniteForward : Format → ℕ → List Float → List Float → Type 0
FiniteForward f n F x = (k : ℕ) → k < n → FiniteForwardStep f n F k (forward f n F x k)

-- `back_step`
pub record FiniteBackStep (f : Format) (n : ℕ) (F : List Float) (k : ℕ) (x : List Float) : Type 0 where
  pub quotient : Finite (unknown f n F k x)
  pub terms : (i : ℕ) → i < k → Finite (term f n F k (unknown f n F k x) i)
  pub differences : (i : ℕ) → i < k → Finite (less_term f n F k (unknown f n F k x) x i)

-- `back`, all columns
abbrev pub FiniteBack : Format → ℕ → List Float → List Float → Type 0
FiniteBack f n F x = (d : ℕ) → d < n → FiniteBackStep f n F (n - suc d) (back f n F x d)

-- `solved`
pub record FiniteSolution (f : Format) (n : ℕ) (F : List Float) (ps : List ℕ) (x : List Float) : Type 0 where
  pub forwards : FiniteForward f n F (permuted n ps x n)
  pub backwards : FiniteBack f n F (forward f n F (permuted n ps x n) n)
