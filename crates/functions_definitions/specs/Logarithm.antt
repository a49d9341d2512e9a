-- The logarithm: square roots until the matrix is near I, the series of log (I + X), and a power of two. Definitions only.
use Rattle.std.specs.Prelude.{ℕ, suc, ◌+◌, ◌%◌, Bool, true, false, cond, List, pos, eqb, Float}
use Rattle.std.specs.Float.{Format, binary64, fin}
use Rattle.std.specs.Float.Ieee.{round, mul, div, lt, le, of_int}
use Rattle.arithmetic_floats.specs.Float.{one, epsilon, constant, power_of_two}
use Rattle.arithmetic_matrices.specs.Product.{mul_m, times_m, add_m, zero_m, minus_identity_m}
use Rattle.arithmetic_matrices.specs.Norm.{norm1, frobenius}
use Rattle.arithmetic_questions.specs.Result.{Result, refused, done, ◌>>=◌}
use Rattle.functions_definitions.specs.Iterate.{Step, running, stopped, failed, after, verdict, ended}
use Rattle.functions_definitions.specs.Roots.{newton_root}

-- ---- the square roots: one is taken, by Newton's iteration, while the matrix is far from I, and at most 100

abbrev pub root_limit : ℕ
root_limit = 100

-- how near to I the matrix must be: 0.1
unfoldable pub near : Format → Float
near f = constant f (round binary64 false 1 10)

-- a matrix, and how many roots were taken to reach it
pub record Rooted : Type 0 where
  pub work : List Float
  pub roots : ℕ

-- one root more than k: the matrix w, unless LU refused
abbrev pub rooted : ℕ → Result (List Float) → Step Rooted
rooted k (refused c x y) = failed
rooted k (done s w) = running (record { work = w; roots = suc k })

module _ (f : Format) (n : ℕ) where
  -- the 1-norm of w - I exceeds 0.1
  unfoldable pub is_far : List Float → Bool
  is_far w = lt (near f) (norm1 f n (minus_identity_m f n w))

  -- a pass takes a root, or stops where the matrix is near I
  unfoldable pub rooting_step : Rooted → Step Rooted
  rooting_step r = cond (is_far r.work) (rooted r.roots (newton_root f n r.work)) (stopped r)

  -- after at most i roots, from a and none
  unfoldable pub rooting : List Float → ℕ → Step Rooted
  rooting a = after (λ _. rooting_step) (record { work = a; roots = 0 })

-- ---- the series X - X^2 / 2 + X^3 / 3 - .., with terms up to 60

-- how many terms follow the first: terms 2 to 60
abbrev pub further_terms : ℕ
further_terms = 59

-- 1 / k, negated at even k
unfoldable pub series_coefficient : Format → ℕ → Float
series_coefficient f k = div f (cond (eqb (k % 2) 0) (fin true 1 (pos 0)) one) (of_int f (pos k))

-- a power of X, and the sum up to its term
pub record Series : Type 0 where
  pub power : List Float
  pub sum : List Float

module _ (f : Format) (n : ℕ) where
  -- pass k adds term k + 2; it is the last where its Frobenius norm is at most epsilon times that of the sum
  unfoldable pub series_step : List Float → ℕ → Series → Step Series
  series_step x k s =
      let p = mul_m f n s.power x in
      let term = times_m f n (series_coefficient f (k + 2)) p in
      let t = add_m f n s.sum term in
      verdict (le (frobenius f n term) (mul f (epsilon f) (frobenius f n t))) (record { power = p; sum = t })

  -- after the terms up to i + 1. The first term is added to +0, so that the sum has no -0.
  unfoldable pub series : List Float → ℕ → Step Series
  series x = after (series_step x) (record { power = x; sum = add_m f n (zero_m n) x })

  -- ---- log A = 2 ^ roots * log (I + X), where I + X is the last root

  -- the logarithm of a matrix w near I, times 2 ^ k
  abbrev pub near_logarithm : ℕ → List Float → Result (List Float)
  near_logarithm k w = ended (series (minus_identity_m f n w) further_terms) >>= λ s. done 0 (times_m f n (power_of_two k) s.sum)

  -- logm
  unfoldable pub logarithm : List Float → Result (List Float)
  logarithm a = ended (rooting f n a root_limit) >>= λ r. near_logarithm r.roots r.work
