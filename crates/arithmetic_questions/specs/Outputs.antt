-- What a call leaves, of the result that its definition gives. Definitions only.
use Rattle.std.specs.Prelude.{◌≡◌, Bool, true, false, List, Float}
use Rattle.arithmetic_questions.specs.Result.{Result, exit, outcome as outcome_of, workspace as workspace_of}
use Rattle.arithmetic_questions.specs.Answers.{Outcome, reported}

-- In all of these x is what the definition gives and o the answer's outcome; an output was lent as `before` and is left as `after`, a workspace was lent as w and is left as w'.

-- The workspace. Where `clears` is true, as document 01 says: after the refusals 1 to 11 as it was lent, otherwise its first 8,192 places hold +0 and later ones are unchanged.
-- Where `clears` is false the same without the clearing: after the refusals 1 to 11 as it was lent, otherwise its first 8,192 places hold anything and later ones are unchanged
-- (so said: cleared, both are the same). The sheet calls its functions so, since its workspace is its own.
abbrev pub WorkspaceLeft : {A : Type 0} → Bool → Result A → List Float → List Float → Type 0
WorkspaceLeft true x w w' = w' ≡ workspace_of x w
WorkspaceLeft false x w w' = workspace_of x w' ≡ workspace_of x w

-- a call with one output and no workspace
pub record OneOutput (x : Result (List Float)) (o : Outcome) (before after : List Float) : Type 0 where
  pub outcome : reported o ≡ outcome_of x
  pub output : after ≡ exit (λ v. v) x before

-- a call with one output and a workspace, which it clears where `clears` is true
pub record OneOutputWith (clears : Bool) (x : Result (List Float)) (o : Outcome) (before after w w' : List Float) : Type 0 where
  pub outcome : reported o ≡ outcome_of x
  pub output : after ≡ exit (λ v. v) x before
  pub workspace : WorkspaceLeft clears x w w'

-- and one that clears it always
abbrev pub OneOutputIn : Result (List Float) → Outcome → List Float → List Float → List Float → List Float → Type 0
OneOutputIn x o before after w w' = OneOutputWith true x o before after w w'

-- the two outputs of a derivative: the function's value, and the derivative
pub record Both : Type 0 where
  pub value : List Float
  pub derivative : List Float

-- a call with these two outputs and a workspace, which it clears where `clears` is true
pub record TwoOutputsWith (clears : Bool) (x : Result Both) (o : Outcome) (first first' second second' w w' : List Float) : Type 0 where
  pub outcome : reported o ≡ outcome_of x
  pub value : first' ≡ exit (λ (b : Both). b.value) x first
  pub derivative : second' ≡ exit (λ (b : Both). b.derivative) x second
  pub workspace : WorkspaceLeft clears x w w'

-- and one that clears it always
abbrev pub TwoOutputsIn : Result Both → Outcome → List Float → List Float → List Float → List Float → List Float → List Float → Type 0
TwoOutputsIn x o first first' second second' w w' = TwoOutputsWith true x o first first' second second' w w'
