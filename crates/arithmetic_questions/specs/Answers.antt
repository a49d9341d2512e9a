-- What the enum of src/answer.rt and the results of src/question.rt mean: the documents' number and details for each case. Definitions only.
use Rattle.std.specs.Prelude.{ℕ, ⊤, Option, Some, None, Result as StdResult, Ok, Err}
use Rattle.arithmetic_questions.specs.Result.{Result, Found, refused, done, passes}
use Rattle.arithmetic_questions.specs.declared.answer.Refusal.{Refusal}
use Rattle.arithmetic_questions.specs.declared.answer.Refusal.TheVariants.{EmptyMatrix, NotSquare, CompanionShape, TooLarge, WrongLength, EntryNotFinite, DirectionNotFinite, ExponentNotFinite, PivotOutOfRange, NotDefined, OrderOne, NormNotFinite, NotConverged, SingularColumn, TooManyHalvings}

-- how a call ended: done, with its halvings, or refused
abbrev pub Outcome : Type 0
Outcome = StdResult ℕ Refusal

-- the answer to a question
abbrev pub Question : Type 0
Question = StdResult ⊤ Refusal

-- the number and the two details of a refusal
abbrev pub numbered : Refusal → Result (Unit {0})
numbered EmptyMatrix = refused 1 0 0
numbered (NotSquare r c) = refused 2 r c
numbered (CompanionShape r c) = refused 3 r c
numbered (TooLarge x limit) = refused 4 x limit
numbered (WrongLength x wanted) = refused 5 x wanted
numbered (EntryNotFinite i j) = refused 6 i j
numbered (DirectionNotFinite i j) = refused 7 i j
numbered ExponentNotFinite = refused 8 0 0
numbered (PivotOutOfRange k p) = refused 9 k p
numbered NotDefined = refused 10 0 0
numbered OrderOne = refused 11 0 0
numbered NormNotFinite = refused 12 0 0
numbered NotConverged = refused 13 0 0
numbered (SingularColumn k) = refused 14 k 0
numbered (TooManyHalvings s) = refused 17 s 0

-- what the outcome of an answer reports: its halvings, or its refusal
abbrev pub reported : Outcome → Result (Unit {0})
reported (Ok s) = done s tt
reported (Err x) = numbered x

-- what question 6 or 7, `number`, finds where the search for an entry that is not finite gave this
abbrev pub scanned : ℕ → Option (ℕ × ℕ) → Found
scanned number None = passes
scanned number (Some p) = refused number p.0 p.1

-- what the answer to a question says: it passes, or the refusal
abbrev pub found : Question → Found
found (Ok _) = passes
found (Err x) = numbered x
