-- What each public call gives, as a function of all that it is given: shapes, numbers, and the lengths of outputs and workspace. Definitions only.
use Rattle.std.specs.Prelude.{ℕ, List, [], ◌∷◌, Float}
use Rattle.std.specs.Float.{Format}
use Rattle.arithmetic_questions.specs.Result.{Result, done}
use Rattle.arithmetic_questions.specs.Questions.{unary, powered, binary, answer, of_expm, of_logm, of_sqrtm, of_powm, of_cosm, of_sinm, of_frechet_expm, of_frechet_logm, of_frechet_sqrtm, of_cond_expm, of_kron, of_kron_sum}
use Rattle.arithmetic_questions.specs.Outputs.{Both}
use Rattle.functions_definitions.specs.Roots.{square_root}
use Rattle.functions_definitions.specs.Logarithm.{logarithm}
use Rattle.functions_definitions.specs.Powers.{exp_m, power_m}
use Rattle.functions_definitions.specs.Trigonometric.{cos_m, sin_m}
use Rattle.functions_definitions.specs.Derivatives.{Condition, frechet_exp_m, frechet_log_m, frechet_sqrt_m, frechet_sqrt_sylvester_m, cond_exp_m}
use Rattle.functions_definitions.specs.Kronecker.{kron_m, kron_sum_m}

-- ---- functions of a matrix: rows, columns, the matrix, the lengths of output and workspace
module _ (f : Format) (r c : ℕ) (a : List Float) (out w : ℕ) where
  unfoldable pub expm : Result (List Float)
  expm = answer of_expm (unary r c a (out ∷ []) w) (exp_m f r a)

  unfoldable pub logm : Result (List Float)
  logm = answer of_logm (unary r c a (out ∷ []) w) (logarithm f r a)

  unfoldable pub sqrtm : Result (List Float)
  sqrtm = answer of_sqrtm (unary r c a (out ∷ []) w) (square_root f r a)

  unfoldable pub cosm : Result (List Float)
  cosm = answer of_cosm (unary r c a (out ∷ []) w) (cos_m f r a)

  unfoldable pub sinm : Result (List Float)
  sinm = answer of_sinm (unary r c a (out ∷ []) w) (sin_m f r a)

  -- the power p
  unfoldable pub powm : Float → Result (List Float)
  powm p = answer of_powm (powered r c a p (out ∷ []) w) (power_m f r a p)

-- its three numbers are returned, and no output is lent
unfoldable pub cond_expm : Format → ℕ → ℕ → List Float → ℕ → Result Condition
cond_expm f r c a w = answer of_cond_expm (unary r c a [] w) (cond_exp_m f r a)

-- ---- functions of a matrix and a direction: out and out' are the lengths of the outputs
module _ (f : Format) (r c : ℕ) (a : List Float) (r' c' : ℕ) (e : List Float) (out out' w : ℕ) where
  unfoldable pub frechet_expm : Result Both
  frechet_expm = answer of_frechet_expm (binary r c a r' c' e (out ∷ out' ∷ []) w) (frechet_exp_m f r a e)

  unfoldable pub frechet_logm : Result Both
  frechet_logm = answer of_frechet_logm (binary r c a r' c' e (out ∷ out' ∷ []) w) (frechet_log_m f r a e)

  unfoldable pub frechet_sqrtm : Result Both
  frechet_sqrtm = answer of_frechet_sqrtm (binary r c a r' c' e (out ∷ out' ∷ []) w) (frechet_sqrt_m f r a e)

  -- the questions of frechet_sqrtm
  unfoldable pub frechet_sqrtm_sylvester : Result Both
  frechet_sqrtm_sylvester = answer of_frechet_sqrtm (binary r c a r' c' e (out ∷ out' ∷ []) w) (frechet_sqrt_sylvester_m f r a e)

-- ---- Kronecker
unfoldable pub kron : Format → ℕ → ℕ → List Float → ℕ → ℕ → List Float → ℕ → Result (List Float)
kron f r c a r' c' b out = answer of_kron (binary r c a r' c' b (out ∷ []) 0) (done 0 (kron_m f r c a r' c' b))

unfoldable pub kron_sum : Format → ℕ → ℕ → List Float → ℕ → ℕ → List Float → ℕ → Result (List Float)
kron_sum f r c a r' c' b out = answer of_kron_sum (binary r c a r' c' b (out ∷ []) 0) (done 0 (kron_sum_m f r a r' b))
