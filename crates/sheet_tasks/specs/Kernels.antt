-- What the functions that run a task ask for and write. Only the contracts of kernels cite it. Definitions only.
use Rattle.std.specs.Prelude.{ℕ, ◌+◌, ◌*◌, ◌≤◌, ◌<◌, ◌≡◌, true, List, length, Float}
use Rattle.std.specs.Float.{binary64}
use Rattle.arithmetic_questions.specs.Result.{Result}
use Rattle.functions_definitions.specs.Calls.{cond_expm}
use Rattle.functions_definitions.specs.Reports.{cond_exp_report}
use Rattle.sheet_encoding.specs.Bytes.{byte_at, numbers_at}
use Rattle.sheet_encoding.specs.Limits.{task_limit, line_limit}
use Rattle.sheet_encoding.specs.Parse.{matrix_size, direction_at, exponent_at, takes_direction}
use Rattle.sheet_tasks.specs.Tasks.{workspace_length, value_for, value_report, derivative_for, derivative_report, both, ratio, exponent_for, ending}
use Rattle.sheet_tasks.specs.declared.task.Sheet.{Sheet}

-- the matrix is the sheet's own
abbrev pub SheetMatrix : Sheet → Type 0
SheetMatrix x = x.matrix.now ≡ numbers_at binary64 x.bytes.now 1 (x.counts.order * x.counts.order)

-- a task's place on the output, the order of the sheet, its matrix, and the workspace
pub record TaskRoom (out : List ℕ) (at task : ℕ) (x : Sheet) (w : List Float) : Type 0 where
  pub space : at + line_limit ≤ length out
  pub number : task ≤ task_limit
  pub order : x.counts.order ≤ 8
  pub matrix : length x.matrix.now ≡ x.counts.order * x.counts.order
  pub workspace : length w ≡ workspace_length

-- where the task at q names an exponent or a direction, that is there
pub record TaskReady (s : List ℕ) (q n d : ℕ) : Type 0 where
  pub there : q + 1 < length s
  pub directions : d ≤ 8
  pub exponent : byte_at s q ≡ 3 → exponent_at n d (byte_at s (q + 1)) + 8 ≤ length s
  pub direction : takes_direction (byte_at s q) ≡ true → direction_at n (byte_at s (q + 1)) + matrix_size n ≤ length s
  pub index : takes_direction (byte_at s q) ≡ true → byte_at s (q + 1) ≤ 8

-- ---- the numbers of a line, by the kind of its function

-- a code from 0 to 5 and its index
abbrev pub value_numbers : Sheet → ℕ → ℕ → Result (List Float)
value_numbers x code i =
    let p = exponent_for binary64 x.bytes.now code (exponent_at x.counts.order x.counts.directions i) in
    ending (value_report binary64 x.counts.order x.matrix.now p code) (value_for binary64 x.counts.order x.matrix.now p code)

-- a code of 6 to 8 or 10 and its index
abbrev pub derivative_numbers : Sheet → ℕ → ℕ → Result (List Float)
derivative_numbers x code i =
    let e = numbers_at binary64 x.bytes.now (direction_at x.counts.order i) (x.counts.order * x.counts.order) in
    ending (derivative_report binary64 x.counts.order x.matrix.now e code) (both (derivative_for binary64 x.counts.order x.matrix.now e code))

-- code 9
abbrev pub condition_numbers : Sheet → Result (List Float)
condition_numbers x = ending (cond_exp_report binary64 x.counts.order x.matrix.now) (ratio (cond_expm binary64 x.counts.order x.counts.order x.matrix.now workspace_length))
