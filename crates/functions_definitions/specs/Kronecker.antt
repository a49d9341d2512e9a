-- The Kronecker product and sum. Definitions only.
use Rattle.std.specs.Prelude.{ℕ, ◌*◌, ◌/◌, ◌%◌, List, Float}
use Rattle.std.specs.Float.{Format}
use Rattle.std.specs.Float.Ieee.{mul}
use Rattle.arithmetic_matrices.specs.Matrix.{at, grid}
use Rattle.arithmetic_matrices.specs.Product.{identity_m, add_m}

-- each entry of a, m by n, times all of b, p by q
unfoldable pub kron_m : Format → ℕ → ℕ → List Float → ℕ → ℕ → List Float → List Float
kron_m f m n a p q b = grid (m * p) (n * q) (λ i j. mul f (at n a (i / p) (j / q)) (at q b (i % p) (j % q)))

-- a ⊗ I + I ⊗ b, the products formed with the zeros of I; a is of order m, b of order p
unfoldable pub kron_sum_m : Format → ℕ → List Float → ℕ → List Float → List Float
kron_sum_m f m a p b = add_m f (m * p) (kron_m f m m a p p (identity_m p)) (kron_m f m m (identity_m m) p p b)
