-- The Kronecker product and sum as blocks. Assumes nothing.
use Prim.Native.Nat.{ℕ, ◌+◌, ◌*◌, ◌/◌, ◌%◌, ◌<◌, ◌≤◌}
use mathlib.Core.Path.{◌≡◌, refl, sym, ap₂, ◌∙◌}
use mathlib.Core.List.{List}
use native.Mathlib.Nat.{mul_assoc}
use native.Mathlib.Omega.{arith}
use lib.Ieee.{Float, Format, add, mul, nan}
use Rattle.arithmetic_floats.specs.Float.{one}
use Rattle.arithmetic_matrices.specs.Matrix.{tab, grid, at, put}
use Rattle.arithmetic_matrices.specs.Product.{diagonal_entry, identity_m, add_m}
use Rattle.arithmetic_matrices.proofs.MatrixLaws.{length-tab, get_or-tab, at-grid, grid_cong, grid_is, index_lt, row_lt, column_lt, row_end}
use Rattle.functions_definitions.specs.Kronecker.{kron_m, kron_sum_m}
use Rattle.functions_kronecker.specs.Kernels.{kron_entry, kron_sum_entry}
use Rattle.arithmetic_matrices.specs.Kernels.{block_row}
use Rattle.arithmetic_matrices.proofs.FilledLaws.{Filled, filled_turn, Blocks, blocks_turn, all_rows}

-- the sum of two matrices by their entries
add-grid : (f : Format) (n : ℕ) (F G : ℕ → ℕ → Float) → add_m f n (grid n n F) (grid n n G) ≡ grid n n (λ i j. add f (F i j) (G i j))
unfolding add_m at
add-grid f n F G =
    grid_is n n (λ i j. add f (F i j) (G i j)) (add_m f n (grid n n F) (grid n n G)) (length-tab (n * n) _)
    (λ i j hi hj. get_or-tab (n * n) _ (i * n + j) nan (index_lt hi hj) ∙ ap₂ (add f) (at-grid n n F i j hi hj) (at-grid n n G i j hi hj))

-- ---- the product and the sum

pub kron_blocks : (f : Format) (m n : ℕ) (a : List Float) (p q : ℕ) (b : List Float) → grid (m * p) (n * q) (all_rows (kron_entry f n a q b) p q) ≡ kron_m f m n a p q b
unfolding kron_m block_row kron_entry
kron_blocks f m n a p q b = refl

pub sum_blocks : (f : Format) (m : ℕ) (a : List Float) (p : ℕ) (b : List Float) → grid (m * p) (m * p) (all_rows (kron_sum_entry f m a p b) p p) ≡ kron_sum_m f m a p b
unfolding kron_sum_m kron_m block_row kron_sum_entry identity_m
sum_blocks f m a p b =
    sym (add-grid f (m * p) (λ i j. mul f (at m a (i / p) (j / p)) (at p (identity_m p) (i % p) (j % p))) (λ i j. mul f (at m (identity_m m) (i / p) (j / p)) (at p b (i % p) (j % p)))
    ∙ grid_cong (m * p) (m * p) _ (λ i j. kron_sum_entry f m a p b (i / p) (j / p) (i % p) (j % p))
    (λ i j hi hj. ap₂ (λ (u v : Float). add f (mul f (at m a (i / p) (j / p)) u) (mul f v (at p b (i % p) (j % p))))
    (at-grid p p (diagonal_entry one) (i % p) (j % p) (column_lt m p i hi) (column_lt m p j hj))
    (at-grid m m (diagonal_entry one) (i / p) (j / p) (row_lt m p i hi) (row_lt m p j hj))))

-- ---- rows, and rows of blocks, whose place is computed from their number

pub filled_next : {w : List Float} {o m c : ℕ} {G : ℕ → ℕ → Float} {z z' : ℕ} {v v' : List Float} {r : ℕ} → Filled w o m c G z v r → r < m → v' ≡ put v z (tab c (G r)) → z' ≡ z + c → Filled w o m c G z' v' (r + 1)
filled_next s h e p = rw p (filled_turn s h e)

pub blocks_next : {w : List Float} {m n p q : ℕ} {e : ℕ → ℕ → ℕ → ℕ → Float} {z z' : ℕ} {v v' : List Float} {i : ℕ} → Blocks w m n p q e z v i → i < m → v' ≡ put v z (grid p (n * q) (block_row q e i)) → z' ≡ z + p * (n * q) → Blocks w m n p q e z' v' (i + 1)
blocks_next s h e p = rw p (blocks_turn s h e)

-- row i of m rows of blocks, each of p rows of c numbers
pub blocks_inside : (i m p c : ℕ) → i < m → i * (p * c) + p * c ≤ m * p * c
blocks_inside i m p c h = omega (arith, mul_assoc m p c, row_end i m (p * c) h)
