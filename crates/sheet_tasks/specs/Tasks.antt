-- What a task of a sheet gives, and its line. Definitions only.
use Rattle.std.specs.Prelude.{ℕ, ◌+◌, ◌*◌, cond, List, [], ◌∷◌, ◌++◌, eqb, ltb, Float}
use Rattle.std.specs.Float.{Format}
use Rattle.arithmetic_floats.specs.Float.{+zero}
use Rattle.arithmetic_questions.specs.Result.{Result, refused, done}
use Rattle.arithmetic_questions.specs.Outputs.{Both}
use Rattle.arithmetic_questions.specs.Reports.{nothing}
use Rattle.arithmetic_questions.specs.declared.answer.Report.{Report}
use Rattle.functions_definitions.specs.Derivatives.{Condition}
use Rattle.functions_definitions.specs.Calls.{expm, logm, sqrtm, powm, cosm, sinm, frechet_expm, frechet_logm, frechet_sqrtm, frechet_sqrtm_sylvester, cond_expm}
use Rattle.functions_definitions.specs.Reports.{exp_report, log_report, root_report, power_report, frechet_exp_report, frechet_log_report, frechet_sqrt_report, frechet_sqrt_sylvester_report, cond_exp_report}
use Rattle.sheet_encoding.specs.Bytes.{byte_at, number_at, numbers_at}
use Rattle.sheet_encoding.specs.Text.{result_line}
use Rattle.sheet_encoding.specs.Parse.{direction_at, exponent_at, takes_direction}

-- ---- one task: n by n matrices, outputs of n * n numbers, and a workspace

-- the numbers of the workspace that every task is lent
abbrev pub workspace_length : ℕ
workspace_length = 8192

-- codes 0 to 5, of the matrix a; p is the exponent of code 3
unfoldable pub value_for : Format → ℕ → List Float → Float → ℕ → Result (List Float)
value_for f n a p code =
    cond (eqb code 0) (expm f n n a (n * n) workspace_length)
    (cond (eqb code 1) (logm f n n a (n * n) workspace_length)
    (cond (eqb code 2) (sqrtm f n n a (n * n) workspace_length)
    (cond (eqb code 3) (powm f n n a (n * n) workspace_length p)
    (cond (eqb code 4) (cosm f n n a (n * n) workspace_length)
    (sinm f n n a (n * n) workspace_length)))))

-- codes 6 to 8 and 10, of the matrix a in the direction e
unfoldable pub derivative_for : Format → ℕ → List Float → List Float → ℕ → Result Both
derivative_for f n a e code =
    cond (eqb code 6) (frechet_expm f n n a n n e (n * n) (n * n) workspace_length)
    (cond (eqb code 7) (frechet_logm f n n a n n e (n * n) (n * n) workspace_length)
    (cond (eqb code 8) (frechet_sqrtm f n n a n n e (n * n) (n * n) workspace_length)
    (frechet_sqrtm_sylvester f n n a n n e (n * n) (n * n) workspace_length)))

-- what codes 0 to 5 report; cosm and sinm (4, 5) factor nothing
unfoldable pub value_report : Format → ℕ → List Float → Float → ℕ → Report
value_report f n a p code =
    cond (eqb code 0) (exp_report f n a)
    (cond (eqb code 1) (log_report f n a)
    (cond (eqb code 2) (root_report f n a)
    (cond (eqb code 3) (power_report f n a p) nothing)))

-- what codes 6 to 8 and 10 report
unfoldable pub derivative_report : Format → ℕ → List Float → List Float → ℕ → Report
derivative_report f n a e code =
    cond (eqb code 6) (frechet_exp_report f n a e)
    (cond (eqb code 7) (frechet_log_report f n a e)
    (cond (eqb code 8) (frechet_sqrt_report f n a)
    (frechet_sqrt_sylvester_report f n a)))

-- a result with its outputs as one list: the first before the second, and of a condition the ratio only
unfoldable pub both : Result Both → Result (List Float)
both (refused k x y) = refused k x y
both (done s b) = done s (b.value ++ b.derivative)

unfoldable pub ratio : Result Condition → Result (List Float)
ratio (refused k x y) = refused k x y
ratio (done s c) = done s (c.ratio ∷ [])

-- the exponent at p where the code is 3, and +0 otherwise
abbrev pub exponent_for : Format → List ℕ → ℕ → ℕ → Float
exponent_for f s code p = cond (eqb code 3) (number_at f s p) +zero

-- what the task with this code and index gives
unfoldable pub task_result : Format → List ℕ → ℕ → ℕ → ℕ → ℕ → Result (List Float)
task_result f s n d code i =
    let a = numbers_at f s 1 (n * n) in
    cond (ltb code 6) (value_for f n a (exponent_for f s code (exponent_at n d i)) code)
    (cond (takes_direction code) (both (derivative_for f n a (numbers_at f s (direction_at n i) (n * n)) code))
    (ratio (cond_expm f n n a workspace_length)))

-- what the task reports, where it is done
unfoldable pub task_report : Format → List ℕ → ℕ → ℕ → ℕ → ℕ → Report
task_report f s n d code i =
    let a = numbers_at f s 1 (n * n) in
    cond (ltb code 6) (value_report f n a (exponent_for f s code (exponent_at n d i)) code)
    (cond (takes_direction code) (derivative_report f n a (numbers_at f s (direction_at n i) (n * n)) code)
    (cond_exp_report f n a))

-- a result with the smallest pivot of its report after its numbers
unfoldable pub ending : Report → Result (List Float) → Result (List Float)
ending r (refused k x y) = refused k x y
ending r (done s m) = done s (m ++ (r.smallest ∷ []))

-- the numbers of a task's line
abbrev pub task_numbers : Format → List ℕ → ℕ → ℕ → ℕ → ℕ → Result (List Float)
task_numbers f s n d code i = ending (task_report f s n d code i) (task_result f s n d code i)

-- ---- its line

-- task k, from 0, of those from q on; its number is from 1
abbrev pub task_line : Format → List ℕ → ℕ → ℕ → ℕ → ℕ → List ℕ
task_line f s n d q k = result_line f (k + 1) (task_numbers f s n d (byte_at s (q + 2 * k)) (byte_at s (q + 2 * k + 1)))
