-- What the steps of the derivative and of the condition leave in outputs and a workspace: the block of order 2 n stands in slot 0. Only the contracts of kernels cite it. Definitions only.
use Rattle.std.specs.Prelude.{ℕ, ◌+◌, List, ◌≡◌, ltb, Float}
use Rattle.arithmetic_matrices.specs.Matrix.{at}
use Rattle.arithmetic_matrices.specs.Workspace.{slot, Only}
use Rattle.functions_definitions.specs.Exponential.{quarter}
use Rattle.arithmetic_questions.specs.Result.{Result, exit, outcome as outcome_of, refused, done}
use Rattle.arithmetic_questions.specs.Answers.{Outcome, reported}
use Rattle.arithmetic_questions.specs.Outputs.{Both}
use Rattle.functions_definitions.specs.Derivatives.{Condition}

-- row i of `quarter`
unfoldable pub quarter_row : ℕ → ℕ → List Float → ℕ → ℕ → Float
quarter_row n c b i j = at (n + n) b i (c + j)

-- the upper quarters of the matrix of order 2 n in slot 0 are written where the outcome `given` is done
pub record Quartered (n : ℕ) (given o : Outcome) (w first first' second second' : List Float) : Type 0 where
  pub outcome : reported o ≡ reported given
  pub value : first' ≡ exit (λ _. quarter n 0 (slot (n + n) w 0)) (reported given) first
  pub derivative : second' ≡ exit (λ _. quarter n n (slot (n + n) w 0)) (reported given) second

-- two outputs are written, and the workspace is yet to be cleared; x is what the definition gives
pub record Written (x : Result Both) (o : Outcome) (first first' second second' w w' : List Float) : Type 0 where
  pub outcome : reported o ≡ outcome_of x
  pub value : first' ≡ exit (λ (b : Both). b.value) x first
  pub derivative : second' ≡ exit (λ (b : Both). b.derivative) x second
  pub only : Only (λ s. ltb s 32) w w'

-- c with an outcome that was reported
abbrev pub rated : Condition → Result (Unit {0}) → Result Condition
rated c (refused k x y) = refused k x y
rated c (done s a) = done s c
