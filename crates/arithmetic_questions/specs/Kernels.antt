-- The parts of a call: what stands in the slots of its workspace before the outputs are written, and what writing them leaves. Only the contracts of kernels
-- cite it. Definitions only.
use Rattle.std.specs.Prelude.{ℕ, ◌≡◌, Bool, cond, List, Float}
use Rattle.arithmetic_matrices.specs.Workspace.{slot, member, Only, cleared}
use Rattle.arithmetic_questions.specs.Result.{Result, exit, outcome as outcome_of}
use Rattle.arithmetic_questions.specs.Answers.{Outcome, reported}
use Rattle.arithmetic_questions.specs.Outputs.{Both}

-- The matrix of order n in slot 0 is replaced by what the definition gives, x. o is the outcome. Only the slots ss change; after a refusal slot 0 holds anything.
pub record Replaced (ss : List ℕ) (n : ℕ) (x : Result (List Float)) (o : Outcome) (w w' : List Float) : Type 0 where
  pub outcome : reported o ≡ outcome_of x
  pub result : slot n w' 0 ≡ exit (λ v. v) x (slot n w' 0)
  pub only : Only (member ss) w w'

-- v is written to an output where the outcome `given` is done, the workspace is cleared where `clears` is true, and the answer has the same outcome
pub record Delivered (clears : Bool) (given o : Outcome) (v before after w w' : List Float) : Type 0 where
  pub outcome : reported o ≡ reported given
  pub output : after ≡ exit (λ _. v) (reported given) before
  pub workspace : w' ≡ cond clears (cleared w) w

-- the same with two outputs: the value's matrix stands in slot 0 and the derivative's in slot 1
pub record ReplacedBoth (ss : List ℕ) (n : ℕ) (x : Result Both) (o : Outcome) (w w' : List Float) : Type 0 where
  pub outcome : reported o ≡ outcome_of x
  pub value : slot n w' 0 ≡ exit (λ (b : Both). b.value) x (slot n w' 0)
  pub derivative : slot n w' 1 ≡ exit (λ (b : Both). b.derivative) x (slot n w' 1)
  pub only : Only (member ss) w w'

-- v and d are written to the two outputs where the outcome `given` is done
pub record DeliveredBoth (clears : Bool) (given o : Outcome) (v d first first' second second' w w' : List Float) : Type 0 where
  pub outcome : reported o ≡ reported given
  pub value : first' ≡ exit (λ _. v) (reported given) first
  pub derivative : second' ≡ exit (λ _. d) (reported given) second
  pub workspace : w' ≡ cond clears (cleared w) w
