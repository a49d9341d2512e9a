-- Every number that a product forms is finite: each product and each partial sum. Definitions only.
use Rattle.std.specs.Prelude.{ℕ, suc, ◌<◌, List, Float}
use Rattle.std.specs.Float.{Format}
use Rattle.std.specs.Float.Ieee.{mul}
use Rattle.arithmetic_floats.specs.Float.{Finite}
use Rattle.arithmetic_matrices.specs.Matrix.{at}
use Rattle.arithmetic_matrices.specs.Product.{dot}

-- each product and each partial sum of `dot`
abbrev pub FiniteDot : Format → ℕ → (ℕ → Float) → (ℕ → Float) → Type 0
FiniteDot f n g h = (k : ℕ) → k < n → Finite (mul f (g k) (h k)) × Finite (dot f (suc k) g h)

-- each entry of `mul_m`
abbrev pub FiniteProduct : Format → ℕ → List Float → List Float → Type 0
FiniteProduct f n a b = (i j : ℕ) → i < n → j < n → FiniteDot f n (at n a i) (λ k. at n b k j)
