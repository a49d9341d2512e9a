-- What a call leaves once its questions are asked. Assumes nothing.
use Rattle.std.specs.Prelude.{Ok, Err}
use Prim.Native.Nat.{ℕ, ◌*◌, ◌≤◌}
use native.Mathlib.Omega.{arith}
use mathlib.Core.Path.{◌≡◌, refl, ap, sym, ◌∙◌}
use mathlib.Core.Bool.{Bool, true, false, cond}
use mathlib.Core.List.{List}
use lib.Dec.{ltb}
use lib.ListN.{length}
use lib.Ieee.{Float}
use borrow.Author.Tests.{lt-leb}
use Rattle.arithmetic_matrices.specs.Matrix.{part}
use Rattle.arithmetic_matrices.specs.Workspace.{slot, store, cleared, Only}
use Rattle.arithmetic_questions.specs.Result.{Result, refused, done, ◌>>=◌, outcome, exit, workspace}
use Rattle.arithmetic_questions.specs.Questions.{Call, Profile, asked, answer}
use Rattle.arithmetic_questions.specs.Answers.{Question, Outcome, numbered, reported, found}
use Rattle.arithmetic_questions.specs.Outputs.{WorkspaceLeft, OneOutput, OneOutputWith}
use Rattle.arithmetic_questions.specs.Kernels.{Replaced, Delivered}
use Rattle.arithmetic_questions.specs.declared.answer.Refusal.{Refusal}
use Rattle.arithmetic_matrices.proofs.MatrixLaws.{square_le}
use Rattle.arithmetic_matrices.proofs.Slots.{slot_store, only_store, only_trans, only_more, cleared_only}
use Rattle.arithmetic_matrices.proofs.States.{among, member_among}
use Rattle.arithmetic_questions.proofs.QuestionLaws.{as_refused}
use Rattle.arithmetic_questions.proofs.AnswerLaws.{answer_passed, outcome_no, exit_no, workspace_no}

-- ---- refusals met on the way: 12, 13, 14, 17

abbrev pub Late : {A : Type 0} → Result A → Type 0
Late (refused k x y) = 12 ≤ k
Late (done s a) = Unit {0}

-- they clear the workspace, as what is done does
pub late-workspace : {A : Type 0} (r : Result A) (w : List Float) → Late r → workspace r w ≡ cleared w
unfolding workspace
late-workspace (refused k x y) w h = ap (λ (b : Bool). cond b w (cleared w)) (lt-leb k 11 (omega arith))
late-workspace (done s a) w h = refl

-- w2 is what the steps made of w, and w3 what is left of it
pub late_where : {A : Type 0} (clears : Bool) (r : Result A) (w w2 w3 : List Float) → Late r → w3 ≡ cond clears (cleared w2) w2 → cleared w2 ≡ cleared w → WorkspaceLeft clears r w w3
late_where true r w w2 w3 h d e = d ∙ e ∙ sym (late-workspace r w h)
late_where false r w w2 w3 h d e = late-workspace r w3 h ∙ ap cleared d ∙ e ∙ sym (late-workspace r w h)

-- what is left as it was lent
pub kept_where : {A : Type 0} (clears : Bool) (r : Result A) (w : List Float) → w ≡ workspace r w → WorkspaceLeft clears r w w
kept_where true r w e = e
kept_where false r w e = refl

pub late_bind : {A B : Type 0} (r : Result A) (g : A → Result B) → Late r → ((a : A) → Late (g a)) → Late (r >>= g)
unfolding ◌>>=◌
late_bind (refused k x y) g h l = h
late_bind (done s a) g h l = l a

-- ---- an output by an outcome

module _ (v lent : List Float) (given : Outcome) where
  pub exit_done : (s : ℕ) → given ≡ Ok s → exit (λ _. v) (reported given) lent ≡ v
  unfolding exit
  exit_done s e = ap (λ (z : Outcome). exit (λ _. v) (reported z) lent) e

  pub exit_refused : (x : Refusal) → given ≡ Err x → exit (λ _. v) (reported given) lent ≡ lent
  unfolding exit
  exit_refused x e =
      let (i, j, l, n) = as_refused x in
      ap (λ (z : Outcome). exit (λ _. v) (reported z) lent) e ∙ ap (λ (z : Result (Unit {0})). exit (λ _. v) z lent) n

  -- v is what the definition, x, gives where it is done
  pub exit_as : {A : Type 0} (x : Result A) (read : A → List Float) → reported given ≡ outcome x → v ≡ exit read x v → exit (λ _. v) (reported given) lent ≡ exit read x lent
  unfolding outcome exit
  exit_as (refused k i j) read p r = ap (λ (z : Result (Unit {0})). exit (λ _. v) z lent) p
  exit_as (done s a) read p r = ap (λ (z : Result (Unit {0})). exit (λ _. v) z lent) p ∙ r

-- ---- one output, no workspace

module _ (p : Profile) (c : Call) (q : Question) (h : found q ≡ asked p c) (o : Outcome) (before : List Float) where
  -- a question refuses: the output is as it was lent
  pub output_refused : (r : Result (List Float)) (x : Refusal) → q ≡ Err x → reported o ≡ numbered x → OneOutput (answer p c r) o before before
  output_refused r x e k = record {
    outcome = k ∙ sym (outcome_no p c r q h x e);
    output = sym (exit_no p c r q h x e (λ v. v) before);
  }

  -- none does: the output is the definition's
  pub output_done :
      (s : ℕ) (v after : List Float) → q ≡ Ok tt → reported o ≡ done s tt → after ≡ v → OneOutput (answer p c (done s v)) o before after
  unfolding outcome exit
  output_done s v after e k w = record {
    outcome = k ∙ sym (ap outcome (answer_passed p c (done s v) q h e));
    output = w ∙ sym (ap (λ (z : Result (List Float)). exit (λ v. v) z before) (answer_passed p c (done s v) q h e));
  }

-- ---- one output and a workspace

-- the two ends of a delivery
pub delivered_done : (clears : Bool) (given o : Outcome) (v before after w w' : List Float) (s : ℕ) → given ≡ Ok s → reported o ≡ done s tt → after ≡ v → w' ≡ cond clears (cleared w) w
    → Delivered clears given o v before after w w'
delivered_done clears given o v before after w w' s e k x y = record { outcome = k ∙ sym (ap reported e); output = x ∙ sym (exit_done v before given s e); workspace = y }

pub delivered_none : (clears : Bool) (given o : Outcome) (v before w w' : List Float) (x : Refusal) → given ≡ Err x → reported o ≡ numbered x → w' ≡ cond clears (cleared w) w
    → Delivered clears given o v before before w w'
delivered_none clears given o v before w w' x e k y = record { outcome = k ∙ sym (ap reported e); output = sym (exit_refused v before given x e); workspace = y }

module _ (p : Profile) (c : Call) (q : Question) (h : found q ≡ asked p c) (clears : Bool) (o : Outcome) (before w : List Float) where
  -- a question refuses: output and workspace are as they were lent
  pub one_refused : (r : Result (List Float)) (x : Refusal) → q ≡ Err x → reported o ≡ numbered x → OneOutputWith clears (answer p c r) o before before w w
  one_refused r x e k = record {
    outcome = k ∙ sym (outcome_no p c r q h x e);
    output = sym (exit_no p c r q h x e (λ v. v) before);
    workspace = kept_where clears (answer p c r) w (sym (workspace_no p c r q h x e w));
  }

  -- none does: the matrix a is copied to slot 0, replaced by what g gives for it, and delivered
  pub one_done : (ss : List ℕ) (n : ℕ) (g : List Float → Result (List Float)) (a after w1 w2 w3 : List Float) (given : Outcome) → q ≡ Ok tt → Late (g a)
      → n ≤ 16 → 8192 ≤ length w → length a ≡ n * n → length before ≡ n * n → among (λ s. ltb s 32) ss ≡ true
      → w1 ≡ store w 0 a → Replaced ss n (g (slot n w1 0)) given w1 w2 → Delivered clears given o (part w2 0 (length before)) before after w2 w3 → OneOutputWith clears (answer p c (g a)) o before after w w3
  unfolding slot
  one_done ss n g a after w1 w2 w3 given e l small room size long m e1 R D =
      let few = square_le n small in
      let a1 : slot n w1 0 ≡ a = ap (λ (z : List Float). slot n z 0) e1 ∙ slot_store n w 0 a size (omega arith) in
      let within : Only (λ s. ltb s 32) w w1 = rw e1 (only_store (λ s. ltb s 32) w 0 a refl (omega arith)) in
      let all = only_trans within (only_more (member_among (λ s. ltb s 32) ss m) R.only) in
      let R' : Replaced ss n (g a) given w1 w2 = rw a1 at R in
      let D' : Delivered clears given o (slot n w2 0) before after w2 w3 = rw long at D in
      rw (answer_passed p c (g a) q h e) (record {
        outcome = D'.outcome ∙ R'.outcome;
        output = D'.output ∙ exit_as (slot n w2 0) before given (g a) (λ v. v) R'.outcome R'.result;
        workspace = late_where clears (g a) w w2 w3 l D'.workspace (cleared_only w w2 room all);
      })
