-- A matrix in slot 0 that is replaced: once, with more slots, and by one call after another, where the first may be refused. Assumes nothing.
use Rattle.std.specs.Prelude.{Ok, Err}
use mathlib.Core.Path.{◌≡◌, refl, ◌∙◌}
use mathlib.Core.List.{List}
use mathlib.Core.Bool.{true}
use Prim.Native.Nat.{ℕ}
use lib.Ieee.{Float}
use Rattle.arithmetic_matrices.specs.Workspace.{slot, member, Only}
use Rattle.arithmetic_questions.specs.Result.{Result, done, ◌>>=◌, outcome, exit}
use Rattle.arithmetic_questions.specs.Answers.{Outcome, numbered, reported}
use Rattle.arithmetic_questions.specs.Kernels.{Replaced}
use Rattle.arithmetic_questions.specs.declared.answer.Refusal.{Refusal}
use Rattle.arithmetic_matrices.proofs.Slots.{only_trans, only_more}
use Rattle.arithmetic_matrices.proofs.States.{among, member_among}
use Rattle.arithmetic_questions.proofs.BothLaws.{call_done, call_refused}

-- what cannot be refused
pub replaced_by : (ss : List ℕ) (n s : ℕ) (o : Outcome) (v w w' : List Float) → reported o ≡ done s tt → slot n w' 0 ≡ v → Only (member ss) w w' → Replaced ss n (done s v) o w w'
unfolding outcome exit
replaced_by ss n s o v w w' h e k = record { outcome = h; result = e; only = k }

-- with more slots, and after a change that the matrix survives
pub replaced_more : (ss first : List ℕ) (n : ℕ) (x : Result (List Float)) (o : Outcome) (w w1 w2 : List Float) → Only (member ss) w w1 → Replaced first n x o w1 w2 → among (member ss) first ≡ true → Replaced ss n x o w w2
replaced_more ss first n x o w w1 w2 k R m = record { outcome = R.outcome; result = R.result; only = only_trans k (only_more (member_among (member ss) first m) R.only) }

-- ---- one matrix and then another

module _ (ss : List ℕ) (n : ℕ) (x : Result (List Float)) (g : List Float → Result (List Float)) (first : List ℕ) (o : Outcome) (w w1 : List Float) (R : Replaced first n x o w w1) where
  pub then_refused : (y : Refusal) (o' : Outcome) → o ≡ Err y → reported o' ≡ numbered y → among (member ss) first ≡ true → Replaced ss n (x >>= g) o' w w1
  unfolding ◌>>=◌ outcome exit
  then_refused y o' e h m =
      let (k, i, j, ex, en) = call_refused x o y R.outcome e in
      rw ex (record { outcome = h ∙ en; result = refl; only = only_more (member_among (member ss) first m) R.only })

  pub then_replaced : (s : ℕ) (second : List ℕ) (o' : Outcome) (w2 : List Float) → o ≡ Ok s → Replaced second n (g (slot n w1 0)) o' w1 w2
      → among (member ss) first ≡ true → among (member ss) second ≡ true → Replaced ss n (x >>= g) o' w w2
  unfolding ◌>>=◌
  then_replaced s second o' w2 e R' m m' =
      rw (call_done x o (slot n w1 0) s R.outcome R.result e) (replaced_more ss second n _ o' w w1 w2 (only_more (member_among (member ss) first m) R.only) R' m')
