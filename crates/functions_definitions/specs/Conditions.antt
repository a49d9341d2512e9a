-- What cond_expm answers, of the result that its definition gives. Definitions only.
use Rattle.std.specs.Prelude.{◌≡◌}
use Rattle.arithmetic_floats.specs.Float.{+zero}
use Rattle.arithmetic_questions.specs.Result.{Result, exit, outcome as outcome_of}
use Rattle.arithmetic_questions.specs.Answers.{Outcome, reported}
use Rattle.functions_definitions.specs.Derivatives.{Condition}

-- what stands beside a refusal: +0 three times
abbrev pub no_condition : Condition
no_condition = record { ratio = +zero; derivative_norm = +zero; exponential_norm = +zero }

-- an answer with the outcome o and the condition c, where the definition gives x
pub record Conditioned (x : Result Condition) (o : Outcome) (c : Condition) : Type 0 where
  pub outcome : reported o ≡ outcome_of x
  pub condition : c ≡ exit (λ v. v) x no_condition
