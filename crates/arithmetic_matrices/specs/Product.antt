-- Sums, products and multiples of matrices of order n. Sums run from +0 in the order of the index. Definitions only.
use Rattle.std.specs.Prelude.{ℕ, zero, suc, ◌*◌, List, cond, eqb, Float}
use Rattle.std.specs.Float.{Format}
use Rattle.std.specs.Float.Ieee.{add, sub, mul, div}
use Rattle.arithmetic_floats.specs.Float.{+zero, one, half}
use Rattle.arithmetic_matrices.specs.Matrix.{tab, grid, item, at}

-- g 0 + .. + g (k - 1)
unfoldable pub sum : Format → ℕ → (ℕ → Float) → Float
sum f zero g = +zero
sum f (suc k) g = add f (sum f k g) (g k)

-- g 0 * h 0 + .. + g (k - 1) * h (k - 1)
unfoldable pub dot : Format → ℕ → (ℕ → Float) → (ℕ → Float) → Float
unfolding sum
dot f k g h = sum f k (λ i. mul f (g i) (h i))

-- the product of two matrices
unfoldable pub mul_m : Format → ℕ → List Float → List Float → List Float
unfolding grid at dot
mul_m f n a b = grid n n (λ i j. dot f n (at n a i) (λ k. at n b k j))

-- The multiple of a by `by`, and c plus and less the multiple of p by `by`. The source has the factor on either side of the product, which does not
-- depend on it (`product_comm`): here it stands on the right.
unfoldable pub times_m : Format → ℕ → Float → List Float → List Float
unfolding tab
times_m f n by a = tab (n * n) (λ k. mul f (item a k) by)

unfoldable pub add_multiple_m : Format → ℕ → Float → List Float → List Float → List Float
unfolding tab
add_multiple_m f n by p c = tab (n * n) (λ k. add f (item c k) (mul f (item p k) by))

unfoldable pub deduct_m : Format → ℕ → Float → List Float → List Float → List Float
unfolding tab
deduct_m f n by p c = tab (n * n) (λ k. sub f (item c k) (mul f (item p k) by))

-- +0 in every entry
unfoldable pub zero_m : ℕ → List Float
unfolding tab
zero_m n = tab (n * n) (λ k. +zero)

-- the sum of two matrices
unfoldable pub add_m : Format → ℕ → List Float → List Float → List Float
unfolding tab
add_m f n a b = tab (n * n) (λ k. add f (item a k) (item b k))

-- the difference of two matrices
unfoldable pub sub_m : Format → ℕ → List Float → List Float → List Float
unfolding tab
sub_m f n a b = tab (n * n) (λ k. sub f (item a k) (item b k))

-- the mean of two matrices
unfoldable pub mean_m : Format → ℕ → List Float → List Float → List Float
unfolding tab
mean_m f n a b = tab (n * n) (λ k. mul f (add f (item a k) (item b k)) half)

-- the difference of two matrices, divided by h
unfoldable pub difference_quotient_m : Format → ℕ → Float → List Float → List Float → List Float
unfolding tab
difference_quotient_m f n h a b = tab (n * n) (λ k. div f (sub f (item a k) (item b k)) h)

-- entry (i, j) of the multiple of the identity by d, all of it, and the identity itself
unfoldable pub diagonal_entry : Float → ℕ → ℕ → Float
diagonal_entry d i j = cond (eqb i j) d +zero

unfoldable pub diagonal_m : ℕ → Float → List Float
unfolding grid diagonal_entry
diagonal_m n d = grid n n (diagonal_entry d)

unfoldable pub identity_m : ℕ → List Float
unfolding diagonal_m
identity_m n = diagonal_m n one

-- entry (i, j) of a matrix less the identity, v being the matrix's own, and all of it
unfoldable pub minus_identity_entry : Format → ℕ → ℕ → Float → Float
minus_identity_entry f i j v = cond (eqb i j) (sub f v one) v

unfoldable pub minus_identity_m : Format → ℕ → List Float → List Float
unfolding grid at minus_identity_entry
minus_identity_m f n a = grid n n (λ i j. minus_identity_entry f i j (at n a i j))

-- the transpose
unfoldable pub transpose_m : ℕ → List Float → List Float
unfolding grid at
transpose_m n a = grid n n (λ i j. at n a j i)

-- a squared s times
unfoldable pub squared : Format → ℕ → ℕ → List Float → List Float
unfolding mul_m
squared f n zero a = a
squared f n (suc s) a = mul_m f n (squared f n s a) (squared f n s a)
