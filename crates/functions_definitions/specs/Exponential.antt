-- The exponential of a matrix of order n at a given number s of halvings: scaling by 2 ^ -s, the Padé quotient of degree 13, s squarings. Definitions only.
use Rattle.std.specs.Prelude.{ℕ, zero, suc, ◌+◌, ◌-◌, ◌*◌, ◌%◌, cond, List, pos, ltb, eqb, Float}
use Rattle.std.specs.Float.{Format}
use Rattle.std.specs.Float.Ieee.{neg, mul, div, of_int}
use Rattle.arithmetic_floats.specs.Float.{+zero, one, inverse_power_of_two}
use Rattle.arithmetic_matrices.specs.Matrix.{grid, at}
use Rattle.arithmetic_matrices.specs.Product.{dot, mul_m, times_m, identity_m, squared}
use Rattle.lu_factoring.specs.Lu.{lu_outcome}
use Rattle.lu_factoring.specs.Solve.{stand_in, quotient}

-- ---- the coefficients of the Padé quotient of degree 13

-- c (k + 1) from c k, which is c: (c * (13 - k)) / ((k + 1) * (26 - k)), each operation rounded
unfoldable pub next_coefficient : Format → ℕ → Float → Float
next_coefficient f k c = div f (mul f c (of_int f (pos (13 - k)))) (of_int f (pos (suc k * (26 - k))))

-- c 0 = 1, c k = (c (k - 1) * (14 - k)) / (k * (27 - k))
unfoldable pub coefficient : Format → ℕ → Float
unfolding next_coefficient
coefficient f zero = one
coefficient f (suc k) = next_coefficient f k (coefficient f k)

-- c, negated at odd k
abbrev pub flip : ℕ → Float → Float
flip k c = cond (eqb (k % 2) 0) c (neg c)

-- the denominator's coefficients
unfoldable pub flipped : Format → ℕ → Float
flipped f k = flip k (coefficient f k)

module _ (f : Format) (n : ℕ) where
  -- ---- powers

  -- a to the k: the identity, a, and each further power the previous times a
  unfoldable pub power : List Float → ℕ → List Float
  power a zero = identity_m n
  power a (suc zero) = a
  power a (suc (suc k)) = mul_m f n (power a (suc k)) a

  -- ---- the Padé quotient

  -- c 0 * power 0 + .. + c (m - 1) * power (m - 1), from +0 and in this order
  unfoldable pub combination_to : (ℕ → Float) → List Float → ℕ → List Float
  combination_to c a m = grid n n (λ i j. dot f m c (λ k. at n (power a k) i j))

  -- up to power 13
  unfoldable pub combination : (ℕ → Float) → List Float → List Float
  unfolding combination_to
  combination c a = combination_to c a 14

  -- the sum with the coefficients
  unfoldable pub numerator : List Float → List Float
  numerator a = combination (coefficient f) a

  -- the sum with the coefficients of odd powers negated
  unfoldable pub denominator : List Float → List Float
  denominator a = combination (flipped f) a

  -- the numerator divided by the denominator, or the numerator alone where LU refuses the denominator
  unfoldable pub pade : List Float → List Float
  pade a = stand_in (lu_outcome f n (denominator a)) (quotient f n (denominator a) (numerator a)) (numerator a)

  -- ---- the exponential

  -- a times 2 ^ -s
  unfoldable pub scaled : ℕ → List Float → List Float
  scaled s a = times_m f n (inverse_power_of_two s) a

  -- the exponential of a at s halvings: the quotient at a times 2 ^ -s, squared s times
  unfoldable pub exponential : ℕ → List Float → List Float
  exponential s a = squared f n s (pade (scaled s a))

-- ---- the block

-- [A E; 0 A], of order 2 n
unfoldable pub block : ℕ → List Float → List Float → List Float
block n a e = grid (n + n) (n + n) (λ i j. cond (ltb i n) (cond (ltb j n) (at n a i j) (at n e i (j - n))) (cond (ltb j n) +zero (at n a (i - n) (j - n))))

-- the upper quarter, of order n, that starts at column c of a matrix b of order 2 n: the upper left at 0, the upper right at n
unfoldable pub quarter : ℕ → ℕ → List Float → List Float
quarter n c b = grid n n (λ i j. at (n + n) b i (c + j))
