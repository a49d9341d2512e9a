-- Norms and the trace of a matrix of order n. Definitions only.
use Rattle.std.specs.Prelude.{ℕ, zero, suc, ◌*◌, List, Float}
use Rattle.std.specs.Float.{Format}
use Rattle.arithmetic_floats.specs.Float.{+zero, +infinity, magnitude, larger, smaller}
use Rattle.arithmetic_floats.specs.Root.{sqrt_of}
use Rattle.arithmetic_matrices.specs.Matrix.{item, at}
use Rattle.arithmetic_matrices.specs.Product.{sum, dot, sub_m}

-- the sum of the magnitudes of g 0, .., g (k - 1)
unfoldable pub sum_of_magnitudes : Format → ℕ → (ℕ → Float) → Float
unfolding sum magnitude
sum_of_magnitudes f k g = sum f k (λ i. magnitude (g i))

-- the largest of +0, g 0, .., g (k - 1): a NaN never wins
unfoldable pub largest : ℕ → (ℕ → Float) → Float
unfolding larger
largest zero g = +zero
largest (suc k) g = larger (largest k g) (g k)

-- the smallest of plus infinity, g 0, .., g (k - 1): a NaN never wins
unfoldable pub smallest : ℕ → (ℕ → Float) → Float
unfolding smaller
smallest zero g = +infinity
smallest (suc k) g = smaller (smallest k g) (g k)

-- the 1-norm: the largest column sum of magnitudes
unfoldable pub norm1 : Format → ℕ → List Float → Float
unfolding at sum_of_magnitudes largest
norm1 f n a = largest n (λ j. sum_of_magnitudes f n (λ i. at n a i j))

-- the sum of the squares of k numbers, row by row
unfoldable pub sum_of_squares : Format → ℕ → List Float → Float
unfolding dot
sum_of_squares f k a = dot f k (item a) (item a)

-- the Frobenius norm, and that of a difference
unfoldable pub frobenius : Format → ℕ → List Float → Float
unfolding sum_of_squares sqrt_of
frobenius f n a = sqrt_of f (sum_of_squares f (n * n) a)

unfoldable pub norm_of_difference : Format → ℕ → List Float → List Float → Float
unfolding frobenius sub_m
norm_of_difference f n a b = frobenius f n (sub_m f n a b)

-- the sum of the diagonal
unfoldable pub trace : Format → ℕ → List Float → Float
unfolding sum at
trace f n a = sum f n (λ i. at n a i i)
