-- Text written into an output at a cursor, one piece after the other. Only the contracts of kernels cite it. Definitions only.
use Rattle.std.specs.Prelude.{◌≤◌, ℕ, ◌+◌, ◌≡◌, List, ◌++◌, length, take, drop, Float}
use Rattle.arithmetic_questions.specs.Result.{Result, refused, done}
use Rattle.arithmetic_questions.specs.Answers.{Outcome, reported}
use Rattle.sheet_encoding.specs.Limits.{task_limit, line_limit, output_limit}

-- halvings are at most 64, so that a line has room for them
abbrev pub Few : {A : Type 0} → Result A → Type 0
Few (refused k x y) = Unit {0}
Few (done s a) = s ≤ 64

-- the list w with the part from a on replaced by p
abbrev pub replaced : {A : Type 0} → List A → ℕ → List A → List A
replaced w a p = take a w ++ (p ++ drop (length p) (drop a w))

-- the text t is written into `was` at `at`, which gives out; the cursor is past it
pub record Wrote (was : List ℕ) (at : ℕ) (t : List ℕ) (out : List ℕ) (end : ℕ) : Type 0 where
  pub bytes : out ≡ replaced was at t
  pub past : end ≡ at + length t
  pub fits : at + length t ≤ length was

-- the same for a line
pub record Lined (was : List ℕ) (at : ℕ) (t : List ℕ) (out : List ℕ) (end : ℕ) : Type 0 where
  pub wrote : Wrote was at t out end
  pub short : end ≤ at + line_limit

-- all lines of a sheet, from the start of an output
pub record AllLines (was t out : List ℕ) (end : ℕ) : Type 0 where
  pub wrote : Wrote was 0 t out end
  pub short : end ≤ output_limit

-- room for the line of a task with an outcome and two outputs
pub record LineRoom (out : List ℕ) (at task : ℕ) (outcome : Outcome) (first second : List Float) : Type 0 where
  pub space : at + line_limit ≤ length out
  pub number : task ≤ task_limit
  pub few : Few (reported outcome)
  pub numbers : length first + length second ≤ 128
