-- What the halvings that a norm sets decide. Assumes nothing.
use Rattle.std.specs.Prelude.{Ok, Err}
use Prim.Native.Nat.{ℕ, ◌≤◌}
use mathlib.Core.Path.{◌≡◌, refl, sym, ap, ◌∙◌, subst}
use mathlib.Core.Bool.{Bool, true, false}
use mathlib.Core.List.{List, [], ◌∷◌}
use lib.Dec.{T, leb, leb→le, lit≤}
use lib.Ieee.{Float}
use lib.Ieee.Scale.{finite}
use Rattle.arithmetic_floats.specs.Float.{halvings}
use Rattle.arithmetic_questions.specs.Result.{Result, Found, refused, done, ◌>>=◌, outcome, passes, ask, first_no}
use Rattle.arithmetic_questions.specs.Questions.{norm_question, halvings_question}
use Rattle.arithmetic_questions.specs.Answers.{Question, numbered, found}
use Rattle.arithmetic_questions.specs.declared.answer.Refusal.{Refusal}
use Rattle.arithmetic_questions.proofs.QuestionLaws.{as_refused, refusal_ends}
use Rattle.arithmetic_questions.proofs.OutputLaws.{Late}
use Rattle.functions_definitions.specs.Powers.{halvings_for, halvings_report}
use Rattle.functions_definitions.specs.Derivatives.{block_quarters}

-- the halvings that are reported, and whether any are
abbrev reported_halvings : Result (Unit {0}) → ℕ
reported_halvings (refused k x y) = 0
reported_halvings (done s a) = s

abbrev pub IsDone : Result (Unit {0}) → Type 0
IsDone (refused k x y) = ⊥
IsDone (done s a) = Unit {0}

pub not_done : (x : Refusal) (s : ℕ) → numbered x ≡ done s tt → ⊥
not_done x s e = let (k, i, j, n) = as_refused x in subst IsDone (sym e ∙ n) tt

-- ---- questions 12 and 17, once they are asked

-- what they find, q and r, and then the halvings: this is reported
asked_report : (x : Float) (q r : Found) → q ≡ norm_question x → r ≡ halvings_question (halvings x) → (q >>= λ _. r >>= λ _. done (halvings x) tt) ≡ halvings_report x
unfolding halvings_report halvings_for first_no ◌>>=◌
asked_report x q r e d = (λ i. e i >>= λ _. d i >>= λ _. done (halvings x) tt) ∙ go (finite x) (leb (halvings x) 64)
  where
    s : ℕ
    s = halvings x

    go : (b c : Bool) → (ask b 12 0 0 >>= λ _. ask c 17 s 0 >>= λ _. done s (tt {0})) ≡ ((first_no (ask b 12 0 0 ∷ ask c 17 s 0 ∷ []) >>= λ _. done 0 s) >>= λ s. done s tt)
    go true true = refl
    go true false = refl
    go false c = refl

module _ (x : Float) (q : Question) (asked : found q ≡ norm_question x) where
  pub passed_finite : q ≡ Ok tt → T (finite x)
  passed_finite e = go (finite x) (sym (ap found e) ∙ asked)
    where
      go : (b : Bool) → passes ≡ ask b 12 0 0 → T b
      go true p = tt
      go false p = absurd (subst IsDone p tt)

  pub norm_refused : (y : Refusal) → q ≡ Err y → numbered y ≡ halvings_report x
  norm_refused y e = sym (refusal_ends y _) ∙ asked_report x (numbered y) _ (sym (ap found e) ∙ asked) refl

  -- 12 passes, and s halvings are asked
  module _ (passed : q ≡ Ok tt) (s : ℕ) (count : s ≡ halvings x) (r : Question) (limited : found r ≡ halvings_question s) where
    reports : (z : Found) → z ≡ found r → (z >>= λ _. done s tt) ≡ halvings_report x
    unfolding ◌>>=◌
    reports z e = ap (λ (t : ℕ). z >>= λ _. done t (tt {0})) count ∙ asked_report x passes z (sym (ap found passed) ∙ asked) (e ∙ limited ∙ ap halvings_question count)

    pub halvings_refused : (y : Refusal) → r ≡ Err y → numbered y ≡ halvings_report x
    halvings_refused y e = sym (refusal_ends y _) ∙ reports (numbered y) (sym (ap found e))

    pub halvings_passed : r ≡ Ok tt → done s tt ≡ halvings_report x
    unfolding ◌>>=◌
    halvings_passed e = reports passes (sym (ap found e))

-- ---- whatever is done at the halvings that a norm sets

-- 12 and 17 are late refusals, and at most 64 halvings are left
abbrev pub Limited : Result ℕ → Type 0
Limited (refused k i j) = 12 ≤ k
Limited (done t s) = s ≤ 64

pub halvings_limited : (x : Float) → Limited (halvings_for x)
unfolding halvings_for first_no ◌>>=◌
halvings_limited x = go (finite x) (leb (halvings x) 64) (leb→le (halvings x) 64)
  where
    go : (b c : Bool) → (T c → halvings x ≤ 64) → Limited (first_no (ask b 12 0 0 ∷ ask c 17 (halvings x) 0 ∷ []) >>= λ _. done 0 (halvings x))
    go true true h = h tt
    go true false h = lit≤ tt
    go false c h = lit≤ tt

pub halvings_few : (x : Float) (s : ℕ) → halvings_report x ≡ done s tt → s ≤ 64
unfolding halvings_report ◌>>=◌
halvings_few x s e = go (halvings_for x) (halvings_limited x) e
  where
    go : (q : Result ℕ) → Limited q → (q >>= λ s. done s (tt {0})) ≡ done s tt → s ≤ 64
    go (refused k i j) h p = absurd (subst IsDone (sym p) tt)
    go (done t s) h p = subst (λ (n : ℕ). n ≤ 64) (ap reported_halvings p) h

-- halvings that are reported are the norm's
pub halvings_are : (x : Float) (s : ℕ) → done s tt ≡ halvings_report x → s ≡ halvings x
unfolding halvings_report halvings_for first_no ◌>>=◌
halvings_are x s e = go (finite x) (leb (halvings x) 64) e
  where
    go : (b c : Bool) → done s (tt {0}) ≡ ((first_no (ask b 12 0 0 ∷ ask c 17 (halvings x) 0 ∷ []) >>= λ _. done 0 (halvings x)) >>= λ s. done s tt) → s ≡ halvings x
    go true true p = ap reported_halvings p
    go true false p = absurd (subst IsDone p tt)
    go false c p = absurd (subst IsDone p tt)

module _ {A : Type 0} (x : Float) (g : ℕ → A) where
  -- what is done at these halvings reports them
  pub halvings_outcome : outcome (halvings_for x >>= λ s. done s (g s)) ≡ halvings_report x
  unfolding halvings_report ◌>>=◌ outcome
  halvings_outcome = go (halvings_for x)
    where
      go : (q : Result ℕ) → outcome (q >>= λ s. done s (g s)) ≡ (q >>= λ s. done s tt)
      go (refused k i j) = refl
      go (done t s) = refl

  -- halvings that are reported are those it is done at
  pub halvings_set : (s : ℕ) → halvings_report x ≡ done s tt → (halvings_for x >>= λ s. done s (g s)) ≡ done s (g s)
  unfolding halvings_report ◌>>=◌
  halvings_set s e = go (halvings_for x) e
    where
      go : (q : Result ℕ) → (q >>= λ s. done s (tt {0})) ≡ done s (tt {0}) → (q >>= λ s. done s (g s)) ≡ done s (g s)
      go (refused k i j) p = absurd (subst IsDone (sym p) tt)
      go (done t r) p = ap (λ (n : ℕ). done n (g n)) (ap reported_halvings p)

  pub halvings_late : Late (halvings_for x >>= λ s. done s (g s))
  unfolding ◌>>=◌
  halvings_late = go (halvings_for x) (halvings_limited x)
    where
      go : (q : Result ℕ) → Limited q → Late (q >>= λ s. done s (g s))
      go (refused k i j) h = h
      go (done t s) h = tt

-- the quarters report what the block's exponential does
pub quarters_outcome : (n : ℕ) (x : Result (List Float)) → outcome (block_quarters n x) ≡ outcome x
unfolding block_quarters outcome
quarters_outcome n (refused k i j) = refl
quarters_outcome n (done s x) = refl
