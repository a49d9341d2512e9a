-- The substitutions a row at a time, as the code takes all right-hand columns together. Only the contracts of kernels cite it. Definitions only.
use Rattle.std.specs.Prelude.{ℕ, zero, suc, ◌+◌, ◌-◌, ◌*◌, List, Float}
use Rattle.std.specs.Float.{Format}
use Rattle.std.specs.Float.Ieee.{mul, sub, div}
use Rattle.arithmetic_matrices.specs.Matrix.{item}

-- the numbers that stand in w from place p on
abbrev pub row_at : List Float → ℕ → ℕ → Float
row_at w p i = item w (p + i)

-- column j of the rows of m numbers each that stand in w from place p on
abbrev pub column_at : ℕ → List Float → ℕ → ℕ → ℕ → Float
column_at m w p j i = item w (p + (i * m + j))

-- v less row(0) * column(0), row(1) * column(1), .., row(k - 1) * column(k - 1), in this order
unfoldable pub less_products : Format → Float → (ℕ → Float) → (ℕ → Float) → ℕ → Float
less_products f v row column zero = v
less_products f v row column (suc k) = sub f (less_products f v row column k) (mul f (row k) (column k))

-- Forward substitution: number j of a right-hand row, less its first k factors times numbers j of the k rows above it.
unfoldable pub lower_entry : Format → ℕ → (ℕ → Float) → (ℕ → ℕ → Float) → (ℕ → Float) → ℕ → Float
unfolding less_products
lower_entry f k factors above row j = less_products f (row j) factors (above j) k

-- Back substitution: number j of a right-hand row, less its k factors right of the diagonal times numbers j of the k rows below it, the last first; then
-- divided by the diagonal. The factors and the columns count from the diagonal and from the row itself, so number 0 of both is passed over.
unfoldable pub upper_entry : Format → ℕ → (ℕ → Float) → (ℕ → ℕ → Float) → (ℕ → Float) → ℕ → Float
unfolding less_products
upper_entry f k factors below row j = div f (less_products f (row j) (λ d. factors (k - d)) (λ d. below j (k - d)) k) (factors 0)
