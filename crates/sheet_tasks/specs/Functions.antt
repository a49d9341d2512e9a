-- The codes of the functions that a task may ask for. Definitions only.
use Rattle.std.specs.Prelude.{ℕ, ◌≤◌, ◌≡◌, false}
use Rattle.sheet_encoding.specs.Parse.{takes_direction}
use Rattle.sheet_tasks.specs.declared.function.Value.{Value as ValueFunction}
use Rattle.sheet_tasks.specs.declared.function.Value.TheVariants.{Expm, Logm, Sqrtm, Powm, Cosm, Sinm}
use Rattle.sheet_tasks.specs.declared.function.Derivative.{Derivative as DerivativeFunction}
use Rattle.sheet_tasks.specs.declared.function.Derivative.TheVariants.{FrechetExpm, FrechetLogm, FrechetSqrtm, FrechetSqrtmSylvester}
use Rattle.sheet_tasks.specs.declared.function.Function.{Function}
use Rattle.sheet_tasks.specs.declared.function.Function.TheVariants.{Value, Derivative, CondExpm}

abbrev pub value_code : ValueFunction → ℕ
value_code Expm = 0
value_code Logm = 1
value_code Sqrtm = 2
value_code Powm = 3
value_code Cosm = 4
value_code Sinm = 5

abbrev pub derivative_code : DerivativeFunction → ℕ
derivative_code FrechetExpm = 6
derivative_code FrechetLogm = 7
derivative_code FrechetSqrtm = 8
derivative_code FrechetSqrtmSylvester = 10

-- cond_expm has code 9, and stands here for every other code: an accepted sheet has none from 11 on
abbrev pub IsCodeOf : ℕ → Function → Type 0
IsCodeOf code (Value v) = code ≡ value_code v
IsCodeOf code (Derivative d) = code ≡ derivative_code d
IsCodeOf code CondExpm = (6 ≤ code) × (takes_direction code ≡ false)
