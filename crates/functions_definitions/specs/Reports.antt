-- What each function reports, by a definition beside that of its numbers. A report of a run that is refused is not read (`report_at`). Definitions only.
use Rattle.std.specs.Prelude.{ℕ, ◌+◌, ◌*◌, cond, not, List, ℤ, pos, negsuc, eqb, Float}
use Rattle.std.specs.Float.{Format, binary64}
use Rattle.arithmetic_floats.specs.Float.{halvings, integer_of}
use Rattle.arithmetic_matrices.specs.Norm.{norm1}
use Rattle.arithmetic_matrices.specs.Product.{times_m, add_multiple_m, minus_identity_m, transpose_m}
use Rattle.arithmetic_questions.specs.Result.{Result, exit}
use Rattle.arithmetic_questions.specs.Reports.{nothing, factored, iterated, beside, refused_report}
use Rattle.arithmetic_questions.specs.declared.answer.Report.{Report}
use Rattle.lu_factoring.specs.Pivots.{smallest_pivot}
use Rattle.functions_definitions.specs.Iterate.{Step, gathered, passes, by_test, ended}
use Rattle.functions_definitions.specs.Exponential.{denominator, scaled, block}
use Rattle.functions_definitions.specs.Roots.{newton, Pair, denman_beavers, square_root, pass_limit}
use Rattle.functions_definitions.specs.Logarithm.{Rooted, is_far, rooting, root_limit, further_terms, series, logarithm}
use Rattle.functions_definitions.specs.Powers.{is_whole}
use Rattle.functions_definitions.specs.Derivatives.{log_step, sylvester_matrix, unit_direction}

-- one factoring, of a
unfoldable pub lu_report : Format → ℕ → List Float → Report
lu_report f n a = factored (smallest_pivot f n a)

-- two parts: the first gives x and reports r, the second reports g of what the first gives
unfoldable pub followed : {A : Type 0} → Result A → Report → (A → Report) → Report
followed x r g = exit (λ v. beside r (g v)) x refused_report

-- the steps of an iteration of at most k passes; it settles where its own test ends it
abbrev pub passes_report : {S : Type 0} → (ℕ → Step S) → ℕ → Report
passes_report states k = iterated (passes states k) (by_test (states k))

-- the same with what the passes factor: each reports h of the state that it starts from
unfoldable pub iteration_report : {S : Type 0} → (S → Report) → (ℕ → Step S) → ℕ → Report
iteration_report h states k = beside (gathered beside nothing h states k) (passes_report states k)

-- ---- the exponential: one factoring, of the Padé denominator; where the numerator stands in, none succeeded

-- at s halvings
unfoldable pub exponential_report : Format → ℕ → ℕ → List Float → Report
exponential_report f n s a = lu_report f n (denominator f n (scaled f n s a))

-- expm: at the halvings of the norm
unfoldable pub exp_report : Format → ℕ → List Float → Report
exp_report f n a = exponential_report f n (halvings (norm1 f n a)) a

-- frechet_expm: that of [A E; 0 A]
unfoldable pub frechet_exp_report : Format → ℕ → List Float → List Float → Report
frechet_exp_report f n a e = exp_report f (n + n) (block n a e)

-- cond_expm
unfoldable pub cond_exp_report : Format → ℕ → List Float → Report
cond_exp_report f n a = frechet_exp_report f n a (unit_direction f n)

-- ---- the square root: Denman and Beavers factor z and then y in each pass

unfoldable pub pair_report : Format → ℕ → Pair → Report
pair_report f n p = beside (lu_report f n p.z) (lu_report f n p.y)

-- sqrtm: at order 1 there is no pass
unfoldable pub root_report : Format → ℕ → List Float → Report
root_report f n a = cond (eqb n 1) nothing (iteration_report (pair_report f n) (denman_beavers f n a) pass_limit)

-- the derivative at the root s, by the system of s and t: one factoring, of the system's matrix
unfoldable pub root_derivative_report : Format → ℕ → List Float → List Float → Report
root_derivative_report f n s t = cond (eqb n 1) nothing (lu_report f (n * n) (sylvester_matrix f n s t))

-- the root S and its derivative, where T is `second` of S
unfoldable pub root_with_derivative_report : Format → ℕ → (List Float → List Float) → List Float → Report
root_with_derivative_report f n second a = followed (square_root f n a) (root_report f n a) (λ s. root_derivative_report f n s (second s))

-- frechet_sqrtm
unfoldable pub frechet_sqrt_report : Format → ℕ → List Float → Report
frechet_sqrt_report f n a = root_with_derivative_report f n (λ s. s) a

-- frechet_sqrtm_sylvester
unfoldable pub frechet_sqrt_sylvester_report : Format → ℕ → List Float → Report
frechet_sqrt_sylvester_report f n a = root_with_derivative_report f n (transpose_m n) a

-- ---- the logarithm: Newton factors x in each pass, for each root that is taken

unfoldable pub newton_report : Format → ℕ → List Float → Report
newton_report f n a = iteration_report (lu_report f n) (newton f n a) pass_limit

-- a pass of the rooting, at the matrix w
unfoldable pub rooting_report : Format → ℕ → List Float → Report
rooting_report f n w = cond (is_far f n w) (newton_report f n w) nothing

-- all roots: each is to settle, and the matrix that they leave is to be near I, which is asked once more where 100 were taken
unfoldable pub roots_report : Format → ℕ → List Float → Report
roots_report f n a =
    followed (ended (rooting f n a root_limit)) (gathered beside nothing (λ (r : Rooted). rooting_report f n r.work) (rooting f n a) root_limit) (λ r. iterated 0 (not (is_far f n r.work)))

-- the series of log (I + X): its terms after the first
unfoldable pub series_report : Format → ℕ → List Float → Report
series_report f n x = passes_report (series f n x) further_terms

-- logm: the roots, and the series at the matrix that they leave
unfoldable pub log_report : Format → ℕ → List Float → Report
log_report f n a = followed (ended (rooting f n a root_limit)) (roots_report f n a) (λ r. series_report f n (minus_identity_m f n r.work))

-- frechet_logm: both logarithms
unfoldable pub frechet_log_report : Format → ℕ → List Float → List Float → Report
frechet_log_report f n a e = beside (log_report f n a) (log_report f n (add_multiple_m f n (log_step f) e a))

-- ---- powers: a negative whole power inverts a

unfoldable pub whole_report : Format → ℕ → List Float → ℤ → Report
whole_report f n a (pos e) = nothing
whole_report f n a (negsuc e) = lu_report f n a

-- any other power: the logarithm, and the exponential of p times it
unfoldable pub fractional_report : Format → ℕ → List Float → Float → Report
fractional_report f n a p = followed (logarithm f n a) (log_report f n a) (λ l. exp_report f n (times_m f n p l))

-- powm
unfoldable pub power_report : Format → ℕ → List Float → Float → Report
power_report f n a p = cond (is_whole p) (whole_report f n a (integer_of binary64 p)) (fractional_report f n a p)
