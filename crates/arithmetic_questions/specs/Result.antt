-- What a call gives: a refusal with its number and two details, or its halvings and its outputs; and what every contract reads of it: the outcome, an
-- output, the workspace. Definitions only.
use Rattle.std.specs.Prelude.{ℕ, Bool, cond, List, [], ◌∷◌, leb, Float}
use Rattle.arithmetic_matrices.specs.Workspace.{cleared}

-- refused, with the number and two details, or done, with the halvings and what is given
pub data Result (A : Type 0) : Type 0 where
  refused : ℕ → ℕ → ℕ → Result A
  done : ℕ → A → Result A

infixr 20 ◌>>=◌
-- The first, and then the second with its output. A refusal of the first is that of both; the halvings are the second's.
unfoldable pub ◌>>=◌ : {A B : Type 0} → Result A → (A → Result B) → Result B
◌>>=◌ (refused k x y) g = refused k x y
◌>>=◌ (done s a) g = g a

-- ---- what a contract reads of it

-- the outcome: the result without its outputs
unfoldable pub outcome : {A : Type 0} → Result A → Result (Unit {0})
outcome (refused k x y) = refused k x y
outcome (done s a) = done s tt

-- an output when the call returns: the part of the outputs that `read` selects, or after a refusal the output as it was lent
unfoldable pub exit : {A B : Type 0} → (A → B) → Result A → B → B
exit read (refused k x y) lent = lent
exit read (done s a) lent = read a

-- the workspace when the call returns: as it was lent after the refusals 1 to 11, and otherwise cleared (its first 8,192 places hold +0)
unfoldable pub workspace : {A : Type 0} → Result A → List Float → List Float
workspace (refused k x y) w = cond (leb k 11) w (cleared w)
workspace (done s a) w = cleared w

-- ---- questions

-- what a question finds: it passes, or a refusal
abbrev pub Found : Type 0
Found = Result (Unit {0})

abbrev pub passes : Found
passes = done 0 tt

-- b, or else refusal k with the details x and y
abbrev pub ask : Bool → ℕ → ℕ → ℕ → Found
ask b k x y = cond b passes (refused k x y)

-- a question that is asked only where b holds
abbrev pub only_where : Bool → Found → Found
only_where b q = cond b q passes

-- the first refusal among several questions, or it passes
unfoldable pub first_no : List Found → Found
unfolding ◌>>=◌
first_no [] = passes
first_no (q ∷ l) = q >>= λ _. first_no l
