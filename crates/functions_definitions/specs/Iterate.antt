-- An iteration that stops early or fails. The state after i passes is a function of i, so that a loop's invariant can name it; one that has stopped
-- or failed stays as it is. Definitions only.
use Rattle.std.specs.Prelude.{ℕ, zero, suc, ◌+◌, Bool, true, false}
use Rattle.arithmetic_questions.specs.Result.{Result, refused, done}

-- where an iteration with states of type S stands: it goes on, it stopped because its test held, or LU refused a matrix
pub data Step (S : Type 0) : Type 0 where
  running stopped : S → Step S
  failed : Step S

-- the pass g, unless the iteration has stopped or failed
unfoldable pub advance : {S : Type 0} → (S → Step S) → Step S → Step S
advance g (running x) = g x
advance g (stopped x) = stopped x
advance g failed = failed

-- after i passes from x, the passes being g 0, g 1, ..
unfoldable pub after : {S : Type 0} → (ℕ → S → Step S) → S → ℕ → Step S
after g x zero = running x
after g x (suc i) = advance (g i) (after g x i)

-- a pass that leaves x is the last where its test holds; x counts either way
abbrev pub verdict : {S : Type 0} → Bool → S → Step S
verdict true x = stopped x
verdict false x = running x

-- what h reads off the state that a pass starts from, and e where no pass is made
abbrev pub during : {S R : Type 0} → R → (S → R) → Step S → R
during e h (running x) = h x
during e h (stopped x) = e
during e h failed = e

-- e, and then what each of the first k passes reads, joined by op; `states i` is the state after i passes
unfoldable pub gathered : {S R : Type 0} → (R → R → R) → R → (S → R) → (ℕ → Step S) → ℕ → R
gathered op e h states zero = e
gathered op e h states (suc i) = op (gathered op e h states i) (during e h (states i))

-- how many of the first k passes are made, the one that stops included
unfoldable pub passes : {S : Type 0} → (ℕ → Step S) → ℕ → ℕ
passes states k = gathered ◌+◌ 0 (λ _. 1) states k

-- the iteration was ended by its own test
abbrev pub by_test : {S : Type 0} → Step S → Bool
by_test (running x) = false
by_test (stopped x) = true
by_test failed = false

-- running out of passes still answers; a failed LU is refusal 13
abbrev pub ended : {S : Type 0} → Step S → Result S
ended (running x) = done 0 x
ended (stopped x) = done 0 x
ended failed = refused 13 0 0
