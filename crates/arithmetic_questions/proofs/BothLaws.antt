-- What a call with two outputs leaves, and a call on the way that may refuse. Assumes nothing.
use Rattle.std.specs.Prelude.{Ok, Err}
use Prim.Native.Nat.{ℕ, ◌*◌, ◌≤◌, ◌<◌}
use native.Mathlib.Omega.{arith}
use mathlib.Core.Path.{◌≡◌, refl, ap, sym, ◌∙◌}
use mathlib.Core.Bool.{Bool, true, false, cond}
use mathlib.Core.List.{List}
use lib.Dec.{ltb, eqb}
use lib.ListN.{length}
use lib.Ieee.{Float}
use borrow.Author.Tests.{lt-ltb}
use Rattle.arithmetic_matrices.specs.Matrix.{part}
use Rattle.arithmetic_matrices.specs.Workspace.{slot, store, cleared, Only, member}
use Rattle.arithmetic_questions.specs.Result.{Result, refused, done, outcome, exit, ◌>>=◌}
use Rattle.arithmetic_questions.specs.Questions.{Call, Profile, asked, answer}
use Rattle.arithmetic_questions.specs.Answers.{Question, Outcome, numbered, reported, found}
use Rattle.arithmetic_questions.specs.Outputs.{Both, TwoOutputsWith}
use Rattle.arithmetic_questions.specs.Kernels.{ReplacedBoth, DeliveredBoth}
use Rattle.arithmetic_questions.specs.declared.answer.Refusal.{Refusal}
use Rattle.arithmetic_matrices.proofs.MatrixLaws.{square_le}
use Rattle.arithmetic_matrices.proofs.Slots.{slot_store, slot_other, slots_apart, only_store, only_trans, only_more, cleared_only, length-store}
use Rattle.arithmetic_matrices.proofs.States.{among, member_among}
use Rattle.arithmetic_questions.proofs.QuestionLaws.{as_refused}
use Rattle.arithmetic_questions.proofs.AnswerLaws.{answer_passed, outcome_no, exit_no, workspace_no}
use Rattle.arithmetic_questions.proofs.OutputLaws.{Late, late_where, kept_where, exit_done, exit_refused, exit_as}

-- ---- a call on the way, by its outcome

-- where it is done, so is its definition
pub call_done : (x : Result (List Float)) (o : Outcome) (v : List Float) (s : ℕ) → reported o ≡ outcome x → v ≡ exit (λ y. y) x v → o ≡ Ok s → x ≡ done s v
unfolding outcome exit
call_done (refused k i j) o v s p r e = absurd (let z : ◌≡◌ {A = Result (Unit {0})} (done s tt) (refused k i j) = ap reported (sym e) ∙ p in let y : ◌≡◌ {A = ℕ} 0 1 = cc in omega arith)
call_done (done t u) o v s p r e = let z : ◌≡◌ {A = Result (Unit {0})} (done s tt) (done t tt) = ap reported (sym e) ∙ p in let q : s ≡ t = cc in rw (q, ← r)

-- where it refuses, so does whatever follows it
pub call_refused : {A : Type 0} (x : Result A) (o : Outcome) (y : Refusal) → reported o ≡ outcome x → o ≡ Err y → (k : ℕ) × (i : ℕ) × (j : ℕ) × (x ≡ refused k i j) × (numbered y ≡ refused k i j)
unfolding outcome
call_refused (refused k i j) o y p e = (k, i, j, refl, ap reported (sym e) ∙ p)
call_refused (done t u) o y p e =
    let (k, i, j, n) = as_refused y in
    absurd (let z : ◌≡◌ {A = Result (Unit {0})} (refused k i j) (done t tt) = sym n ∙ ap reported (sym e) ∙ p in let y : ◌≡◌ {A = ℕ} 0 1 = cc in omega arith)

-- ---- the two ends of a delivery

module _ (clears : Bool) (given o : Outcome) (v d first second w w' : List Float) where
  pub both_delivered : (first' second' : List Float) (s : ℕ) → given ≡ Ok s → reported o ≡ done s tt → first' ≡ v → second' ≡ d → w' ≡ cond clears (cleared w) w
      → DeliveredBoth clears given o v d first first' second second' w w'
  both_delivered first' second' s e k x y z = record {
    outcome = k ∙ sym (ap reported e);
    value = x ∙ sym (exit_done v first given s e);
    derivative = y ∙ sym (exit_done d second given s e);
    workspace = z;
  }

  pub both_kept : (x : Refusal) → given ≡ Err x → reported o ≡ numbered x → w' ≡ cond clears (cleared w) w → DeliveredBoth clears given o v d first first second second w w'
  both_kept x e k z = record {
    outcome = k ∙ sym (ap reported e);
    value = sym (exit_refused v first given x e);
    derivative = sym (exit_refused d second given x e);
    workspace = z;
  }

-- ---- a call with two outputs and a workspace

module _ (p : Profile) (c : Call) (q : Question) (h : found q ≡ asked p c) (clears : Bool) (o : Outcome) (first second w : List Float) where
  -- a question refuses: outputs and workspace are as they were lent
  pub two_refused : (r : Result Both) (x : Refusal) → q ≡ Err x → reported o ≡ numbered x → TwoOutputsWith clears (answer p c r) o first first second second w w
  two_refused r x e k = record {
    outcome = k ∙ sym (outcome_no p c r q h x e);
    value = sym (exit_no p c r q h x e (λ (b : Both). b.value) first);
    derivative = sym (exit_no p c r q h x e (λ (b : Both). b.derivative) second);
    workspace = kept_where clears (answer p c r) w (sym (workspace_no p c r q h x e w));
  }

  -- None does: the matrix a is copied to slot 0 and the direction d to slot t, slots 0 and 1 are replaced by what g gives for them, and delivered.
  pub two_done : (ss : List ℕ) (n t : ℕ) (g : List Float → List Float → Result Both) (a d first' second' w1 w2 w3 w4 : List Float) (given : Outcome) → q ≡ Ok tt → Late (g a d)
      → n ≤ 16 → 8192 ≤ length w → length a ≡ n * n → length d ≡ n * n → length first ≡ n * n → length second ≡ n * n → eqb 0 t ≡ false → t < 32 → among (λ s. ltb s 32) ss ≡ true
      → w1 ≡ store w 0 a → w2 ≡ store w1 t d → ReplacedBoth ss n (g (slot n w2 0) (slot n w2 t)) given w2 w3
      → DeliveredBoth clears given o (part w3 0 (length first)) (part w3 256 (length second)) first first' second second' w3 w4 → TwoOutputsWith clears (answer p c (g a d)) o first first' second second' w w4
  unfolding slot
  two_done ss n t g a d first' second' w1 w2 w3 w4 given e l small room size size' long long' other far m e1 e2 R D =
      let few = square_le n small in
      let long1 : length w1 ≡ length w = ap length e1 ∙ length-store w 0 a in
      let apart = slots_apart 0 t (n * n) (length d) other few (omega arith) in
      let a1 : slot n w1 0 ≡ a = ap (λ (z : List Float). slot n z 0) e1 ∙ slot_store n w 0 a size (omega arith) in
      let a2 : slot n w2 0 ≡ a = ap (λ (z : List Float). slot n z 0) e2 ∙ slot_other n w1 0 t d apart ∙ a1 in
      let d2 : slot n w2 t ≡ d = ap (λ (z : List Float). slot n z t) e2 ∙ slot_store n w1 t d size' (omega arith) in
      let within1 : Only (λ s. ltb s 32) w w1 = rw e1 (only_store (λ s. ltb s 32) w 0 a refl (omega arith)) in
      let within2 : Only (λ s. ltb s 32) w1 w2 = rw e2 (only_store (λ s. ltb s 32) w1 t d (lt-ltb t 32 far) (omega arith)) in
      let all = only_trans within1 (only_trans within2 (only_more (member_among (λ s. ltb s 32) ss m) R.only)) in
      let R' : ReplacedBoth ss n (g a d) given w2 w3 = rw (a2, d2) at R in
      let D' : DeliveredBoth clears given o (slot n w3 0) (slot n w3 1) first first' second second' w3 w4 = rw (long, long') at D in
      rw (answer_passed p c (g a d) q h e) (record {
        outcome = D'.outcome ∙ R'.outcome;
        value = D'.value ∙ exit_as (slot n w3 0) first given (g a d) (λ (b : Both). b.value) R'.outcome R'.value;
        derivative = D'.derivative ∙ exit_as (slot n w3 1) second given (g a d) (λ (b : Both). b.derivative) R'.outcome R'.derivative;
        workspace = late_where clears (g a d) w w3 w4 l D'.workspace (cleared_only w w3 room all);
      })

-- ---- two calls on the way

-- Where the first of two calls refuses, with y, both outputs stay as they are.
pub both_refused : {A : Type 0} (x : Result A) (g : A → Result Both) (ss : List ℕ) (n : ℕ) (o q : Outcome) (y : Refusal) (w w' : List Float)
    → reported o ≡ outcome x → o ≡ Err y → reported q ≡ numbered y → Only (member ss) w w' → ReplacedBoth ss n (x >>= g) q w w'
unfolding ◌>>=◌ outcome exit
both_refused {A} x g ss n o q y w w' h e eq only =
    let (k, i, j, ex, en) = call_refused x o y h e in
    let b : (x >>= g) ≡ refused k i j = ap (λ (z : Result A). z >>= g) ex in
    record {
      outcome = eq ∙ en ∙ ap outcome (sym b);
      value = ap (λ (z : Result Both). exit (λ (q : Both). q.value) z (slot n w' 0)) (sym b);
      derivative = ap (λ (z : Result Both). exit (λ (q : Both). q.derivative) z (slot n w' 1)) (sym b);
      only = only;
    }

-- Where it is done, what follows decides.
pub both_follows : {A : Type 0} (x : Result A) (g : A → Result Both) (v : A) (s n : ℕ) (ss : List ℕ) (o : Outcome) (w w1 w' : List Float)
    → x ≡ done s v → Only (member ss) w w1 → ReplacedBoth ss n (g v) o w1 w' → ReplacedBoth ss n (x >>= g) o w w'
unfolding ◌>>=◌
both_follows x g v s n ss o w w1 w' e only R = rw e (record { outcome = R.outcome; value = R.value; derivative = R.derivative; only = only_trans only R.only })
