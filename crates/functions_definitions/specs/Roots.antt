-- The two iterations for a square root: Newton's, which the logarithm uses, and Denman and Beavers', which is sqrtm. Definitions only.
use Rattle.std.specs.Prelude.{ℕ, cond, List, [], ◌∷◌, pos, eqb, Float}
use Rattle.std.proofs.Math.Option.{Option, none, some}
use Rattle.std.specs.Float.{Format}
use Rattle.std.specs.Float.Ieee.{mul, div, lt, of_int}
use Rattle.arithmetic_floats.specs.Float.{one, epsilon}
use Rattle.arithmetic_floats.specs.Root.{sqrt_of}
use Rattle.arithmetic_matrices.specs.Matrix.{item}
use Rattle.arithmetic_matrices.specs.Product.{identity_m, diagonal_m, mean_m}
use Rattle.arithmetic_matrices.specs.Norm.{trace, norm_of_difference}
use Rattle.arithmetic_questions.specs.Result.{Result, refused, done, ◌>>=◌}
use Rattle.lu_factoring.specs.Solve.{division, inverse}
use Rattle.functions_definitions.specs.Iterate.{Step, failed, after, verdict, ended}

-- a step of the source that needs LU to succeed: nothing is refusal 13
abbrev pub or_not_converged : {A : Type 0} → Option A → Result A
or_not_converged none = refused 13 0 0
or_not_converged (some x) = done 0 x

-- a pass is the last where the Frobenius norm of the change is below this: 100 * epsilon
unfoldable pub root_tolerance : Format → Float
root_tolerance f = mul f (epsilon f) (of_int f (pos 100))

-- either iteration makes at most so many passes
abbrev pub pass_limit : ℕ
pass_limit = 100

module _ (f : Format) (n : ℕ) where
  -- ---- Newton: x becomes (x + y) / 2, where x y = a

  -- given y, or nothing where LU refuses x; the test is that of x
  unfoldable pub newton_next : List Float → Option (List Float) → Step (List Float)
  newton_next x none = failed
  newton_next x (some y) = verdict (lt (norm_of_difference f n x (mean_m f n x y)) (root_tolerance f)) (mean_m f n x y)

  -- a pass
  unfoldable pub newton_step : List Float → List Float → Step (List Float)
  newton_step a x = newton_next x (division f n x a)

  -- the start is this number times I: the root of trace / n, or 1 unless that exceeds epsilon
  unfoldable pub newton_scale : List Float → Float
  newton_scale a = let r = sqrt_of f (div f (trace f n a) (of_int f (pos n))) in cond (lt (epsilon f) r) r one

  -- the start
  unfoldable pub newton_start : List Float → List Float
  newton_start a = diagonal_m n (newton_scale a)

  -- after i passes
  unfoldable pub newton : List Float → ℕ → Step (List Float)
  newton a = after (λ _. newton_step a) (newton_start a)

  -- the root of a, after at most 100 passes
  unfoldable pub newton_root : List Float → Result (List Float)
  newton_root a = ended (newton a pass_limit)

-- ---- Denman and Beavers: (y, z) becomes ((y + 1 / z) / 2, (z + 1 / y) / 2). y goes to the root, z to its inverse; the test is that of y.

-- the two matrices of the iteration
pub record Pair : Type 0 where
  pub y : List Float
  pub z : List Float

module _ (f : Format) (n : ℕ) where
  -- given v = 1 / z and u = 1 / y, or nothing where LU refuses z or y
  unfoldable pub denman_beavers_next : Pair → Option (List Float) → Option (List Float) → Step Pair
  denman_beavers_next p none u = failed
  denman_beavers_next p (some v) none = failed
  denman_beavers_next p (some v) (some u) =
      verdict (lt (norm_of_difference f n p.y (mean_m f n p.y v)) (root_tolerance f)) (record { y = mean_m f n p.y v; z = mean_m f n p.z u })

  -- a pass; z is inverted first
  unfoldable pub denman_beavers_step : Pair → Step Pair
  denman_beavers_step p = denman_beavers_next p (inverse f n p.z) (inverse f n p.y)

  -- after i passes; the start is (a, I)
  unfoldable pub denman_beavers : List Float → ℕ → Step Pair
  denman_beavers a = after (λ _. denman_beavers_step) (record { y = a; z = identity_m n })

  -- sqrtm: at order 1 the root of the number, and otherwise y after at most 100 passes
  unfoldable pub square_root : List Float → Result (List Float)
  square_root a = cond (eqb n 1) (done 0 (sqrt_of f (item a 0) ∷ [])) (ended (denman_beavers a pass_limit) >>= λ p. done 0 p.y)
