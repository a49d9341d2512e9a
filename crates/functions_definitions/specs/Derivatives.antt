-- The derivatives of exponential, logarithm and square root in a direction E, and the condition of the exponential. Definitions only.
use Rattle.std.specs.Prelude.{ℕ, ◌+◌, ◌*◌, ◌/◌, ◌%◌, ◌<◌, ◌≡◌, cond, List, [], ◌∷◌, pos, eqb, Float}
use Rattle.std.proofs.Math.Option.{Option}
use Rattle.std.specs.Float.{Format, binary64}
use Rattle.std.specs.Float.Ieee.{add, mul, div, lt, of_int}
use Rattle.arithmetic_floats.specs.Float.{+zero, one, epsilon, constant, power_of_two}
use Rattle.arithmetic_floats.specs.Root.{sqrt_of}
use Rattle.arithmetic_matrices.specs.Matrix.{item, at, grid}
use Rattle.arithmetic_matrices.specs.Product.{add_multiple_m, difference_quotient_m, diagonal_m, transpose_m}
use Rattle.arithmetic_matrices.specs.Norm.{frobenius}
use Rattle.arithmetic_questions.specs.Result.{Result, refused, done, ◌>>=◌}
use Rattle.arithmetic_questions.specs.Outputs.{Both}
use Rattle.lu_factoring.specs.Lu.{lu_outcome, lu_factors, lu_pivots}
use Rattle.lu_factoring.specs.Solve.{solved, where_factored}
use Rattle.functions_definitions.specs.Exponential.{block, quarter}
use Rattle.functions_definitions.specs.Roots.{or_not_converged, square_root}
use Rattle.functions_definitions.specs.Logarithm.{logarithm}
use Rattle.functions_definitions.specs.Powers.{exp_m}

-- ---- the exponential: the upper quarters of that of [A E; 0 A]

-- the two upper quarters of a matrix of order 2 n: the value and the derivative
unfoldable pub block_quarters : ℕ → Result (List Float) → Result Both
block_quarters n (refused k x y) = refused k x y
block_quarters n (done s b) = done s (record { value = quarter n 0 b; derivative = quarter n n b })

-- frechet_expm
unfoldable pub frechet_exp_m : Format → ℕ → List Float → List Float → Result Both
frechet_exp_m f n a e = block_quarters n (exp_m f (n + n) (block n a e))

-- ---- the logarithm: (log (A + h E) - log A) / h, where h is the root of epsilon

-- h: 2 ^ -26 for binary64
unfoldable pub log_step : Format → Float
log_step f = sqrt_of f (epsilon f)

-- after l, the logarithm of a: the one of a + h e, and the difference quotient
unfoldable pub second_logarithm : Format → ℕ → List Float → List Float → List Float → Result Both
second_logarithm f n a e l = logarithm f n (add_multiple_m f n (log_step f) e a) >>= λ m. done 0 (record { value = l; derivative = difference_quotient_m f n (log_step f) m l })

-- frechet_logm
unfoldable pub frechet_log_m : Format → ℕ → List Float → List Float → Result Both
frechet_log_m f n a e = logarithm f n a >>= λ l. second_logarithm f n a e l

-- ---- the square root: S X + X T' = E with the root S, T' the transpose of T, as one system for the columns of X, one below the other

-- x with v added to it where i is j
abbrev pub added_where : Format → Float → ℕ → ℕ → Float → Float
added_where f x i j v = cond (eqb i j) (add f x v) x

-- I ⊗ S + T ⊗ I as the source adds it up: +0, plus s(r, c) where p = q, plus t(p, q) where r = c. This is entry (r, c) of block (p, q).
unfoldable pub sylvester_entry : Format → ℕ → List Float → List Float → ℕ → ℕ → ℕ → ℕ → Float
sylvester_entry f n s t p q r c = added_where f (added_where f +zero p q (at n s r c)) r c (at n t p q)

-- the system's matrix, of order n * n, in n by n blocks of order n
unfoldable pub sylvester_matrix : Format → ℕ → List Float → List Float → List Float
sylvester_matrix f n s t = grid (n * n) (n * n) (λ i j. sylvester_entry f n s t (i / n) (j / n) (i % n) (j % n))

-- d x = b for one column b: nothing where LU refuses d
unfoldable pub column_division : Format → ℕ → List Float → List Float → Option (List Float)
column_division f n d b = where_factored (lu_outcome f n d) (solved f n (lu_factors f n d) (lu_pivots f n d) b)

-- X, by one system. The columns of E one below the other are its transpose as a list, and so back.
unfoldable pub sylvester : Format → ℕ → List Float → List Float → List Float → Result (List Float)
sylvester f n s t e = or_not_converged (column_division f (n * n) (sylvester_matrix f n s t) (transpose_m n e)) >>= λ x. done 0 (transpose_m n x)

-- at order 1: e / (2 r), or +0 where the root r is not above 0
unfoldable pub scalar_derivative : Format → Float → Float → Float
scalar_derivative f r e = cond (lt +zero r) (div f e (mul f (power_of_two 1) r)) +zero

-- X, at every order
unfoldable pub root_derivative : Format → ℕ → List Float → List Float → List Float → Result (List Float)
root_derivative f n s t e = cond (eqb n 1) (done 0 (scalar_derivative f (item s 0) (item e 0) ∷ [])) (sylvester f n s t e)

-- the root S, and X, where T is `second` of S
unfoldable pub root_with_derivative : Format → ℕ → (List Float → List Float) → List Float → List Float → Result Both
root_with_derivative f n second a e =
    square_root f n a >>= λ s.
    root_derivative f n s (second s) e >>= λ x.
    done 0 (record { value = s; derivative = x })

-- frechet_sqrtm: S X + X S' = E, Lyapunov's equation, as the source has it. T is S itself.
unfoldable pub frechet_sqrt_m : Format → ℕ → List Float → List Float → Result Both
frechet_sqrt_m f n a e = root_with_derivative f n (λ s. s) a e

-- frechet_sqrtm_sylvester: S X + X S = E, Sylvester's equation, whose solution is the derivative of the root, symmetric or not. T is S transposed.
unfoldable pub frechet_sqrt_sylvester_m : Format → ℕ → List Float → List Float → Result Both
frechet_sqrt_sylvester_m f n a e = root_with_derivative f n (transpose_m n) a e

-- symmetric bit for bit: s(i, j) is s(j, i), zeros with their signs, every NaN one value
abbrev pub Symmetric : ℕ → List Float → Type 0
Symmetric n s = (i j : ℕ) → i < n → j < n → at n s i j ≡ at n s j i

-- the root of a, where there is one, is symmetric: there both derivatives are the same
abbrev pub SymmetricRoot : Format → ℕ → List Float → Type 0
SymmetricRoot f n a = (k : ℕ) (s : List Float) → square_root f n a ≡ done k s → Symmetric n s

-- ---- the condition of the exponential, in the one direction I / root of n

-- the ratio of the norms, and the Frobenius norms of the derivative and of the exponential
pub record Condition : Type 0 where
  pub ratio : Float
  pub derivative_norm : Float
  pub exponential_norm : Float

-- I / root of n. The source works the root out in binary64.
unfoldable pub unit_direction : Format → ℕ → List Float
unit_direction f n = diagonal_m n (div f one (constant f (sqrt_of binary64 (of_int binary64 (pos n)))))

-- the norms x of the exponential and d of the derivative: their ratio, or 1 where x is not above 0
unfoldable pub condition_of : Format → Float → Float → Condition
condition_of f x d = record { ratio = cond (lt +zero x) (div f d x) one; derivative_norm = d; exponential_norm = x }

-- the condition of an exponential and its derivative
unfoldable pub conditioned : Format → ℕ → Result Both → Result Condition
conditioned f n (refused k x y) = refused k x y
conditioned f n (done s b) = done s (condition_of f (frobenius f n b.value) (frobenius f n b.derivative))

-- cond_expm
unfoldable pub cond_exp_m : Format → ℕ → List Float → Result Condition
cond_exp_m f n a = conditioned f n (frechet_exp_m f n a (unit_direction f n))
