-- The proviso of demand 3: every number that the exponential's operations form in a run is finite. Each predicate stands for one definition, and names
-- the results of its operations and nothing else. The Padé coefficients and 2 ^ -s depend on no entry, and are not named. Definitions only.
use Rattle.std.specs.Prelude.{ℕ, suc, ◌<◌, List, Float}
use Rattle.std.specs.Float.{Format}
use Rattle.std.specs.Float.Ieee.{mul}
use Rattle.arithmetic_floats.specs.Float.{inverse_power_of_two, Finite}
use Rattle.arithmetic_matrices.specs.Matrix.{at, column}
use Rattle.arithmetic_matrices.specs.Product.{squared}
use Rattle.arithmetic_matrices.specs.Finite.{FiniteDot, FiniteProduct}
use Rattle.lu_factoring.specs.Lu.{lu_factors, lu_pivots}
use Rattle.lu_factoring.specs.Finite.{FiniteFactors, FiniteSolution}
use Rattle.functions_definitions.specs.Exponential.{power, coefficient, flipped, numerator, denominator, pade, scaled}

-- powers 2 to 13
abbrev pub FinitePowers : Format → ℕ → List Float → Type 0
FinitePowers f n a = (k : ℕ) → k < 12 → FiniteProduct f n (power f n a (suc k)) a

-- each sum of `combination`
abbrev pub FiniteCombination : Format → ℕ → (ℕ → Float) → List Float → Type 0
FiniteCombination f n c a = (i j : ℕ) → i < n → j < n → FiniteDot f 14 c (λ k. at n (power f n a k) i j)

-- the Padé quotient of a
pub record FinitePade (f : Format) (n : ℕ) (a : List Float) : Type 0 where
  pub powers : FinitePowers f n a
  pub above : FiniteCombination f n (coefficient f) a
  pub under : FiniteCombination f n (flipped f) a
  pub factors : FiniteFactors f n (denominator f n a)
  pub columns : (j : ℕ) → j < n → FiniteSolution f n (lu_factors f n (denominator f n a)) (lu_pivots f n (denominator f n a)) (column n n (numerator f n a) j)

-- the whole run on a, of order n, at s halvings
pub record FiniteRun (f : Format) (n s : ℕ) (a : List Float) : Type 0 where
  pub entries : (i j : ℕ) → i < n → j < n → Finite (mul f (at n a i j) (inverse_power_of_two s))
  pub approximant : FinitePade f n (scaled f n s a)
  pub squares : (r : ℕ) → r < s → FiniteProduct f n (squared f n r (pade f n (scaled f n s a))) (squared f n r (pade f n (scaled f n s a)))
