-- What a call or a part of it reports goes by its outcome. Assumes nothing.
use Rattle.std.specs.Prelude.{Ok}
use Prim.Native.Nat.{ℕ, ◌+◌, ◌*◌, ◌≤◌, ◌<◌}
use native.Mathlib.Omega.{arith}
use mathlib.Core.Path.{◌≡◌, refl, sym, ap, ◌∙◌}
use mathlib.Core.Bool.{Bool, true, false, ◌&&◌}
use mathlib.Core.List.{List}
use lib.Dec.{eqb}
use lib.ListN.{length}
use lib.Ieee.{Float, nan, inf, fin, lt}
use Rattle.arithmetic_floats.specs.Float.{+infinity, smaller}
use Rattle.arithmetic_matrices.specs.Workspace.{slot, store}
use Rattle.arithmetic_matrices.proofs.MatrixLaws.{square_le}
use Rattle.arithmetic_matrices.proofs.Slots.{length-store, slot_store, slot_other, slots_apart}
use Rattle.arithmetic_questions.specs.Result.{Result, refused, done, outcome, exit}
use Rattle.arithmetic_questions.specs.Questions.{Call, Profile, asked, answer}
use Rattle.arithmetic_questions.specs.Answers.{Question, Outcome, numbered, reported, found}
use Rattle.arithmetic_questions.specs.Reports.{nothing, beside, refused_report, report_at}
use Rattle.arithmetic_questions.specs.declared.answer.Refusal.{Refusal}
use Rattle.arithmetic_questions.specs.declared.answer.Report.{Report}
use Rattle.arithmetic_questions.proofs.QuestionLaws.{as_refused}
use Rattle.arithmetic_questions.proofs.AnswerLaws.{answer_passed}

-- ---- of a call: the report goes by the outcome alone

report_outcome : {A : Type 0} (x : Result A) (v : Report) → report_at (outcome x) v ≡ report_at x v
unfolding report_at outcome exit
report_outcome (refused k i j) v = refl
report_outcome (done s a) v = refl

pub report_as : {A : Type 0} (x : Result A) (v : Report) (o : Outcome) → reported o ≡ outcome x → report_at (reported o) v ≡ report_at x v
report_as x v o h = ap (λ (z : Result (Unit {0})). report_at z v) h ∙ report_outcome x v

-- a part or a call that is done reports v, and a refused one nothing
pub report_done : {A : Type 0} (x : Result A) (v : Report) (s : ℕ) → done s tt ≡ outcome x → v ≡ report_at x v
unfolding report_at exit
report_done x v s h = ap (λ (z : Result (Unit {0})). report_at z v) h ∙ report_outcome x v

pub report_refused : {A : Type 0} (x : Result A) (v ρ : Report) (o : Outcome) (why : Refusal) → reported o ≡ outcome x → reported o ≡ numbered why → ρ ≡ refused_report → ρ ≡ report_at x v
unfolding report_at exit
report_refused x v ρ o why h k e =
    let (i, j, l, n) = as_refused why in
    e ∙ sym (ap (λ (z : Result (Unit {0})). report_at z v) (k ∙ n)) ∙ report_as x v o h

-- the matrix a is copied to slot 0, y is what the function gives for the slot, and the answer is handed on
pub report_delivered : {A B : Type 0} (x : Result A) (y : Result B) (v : List Float → Report) (ρ ρ' : Report) (o given : Outcome) (n : ℕ) (a w w1 : List Float)
    → n * n ≤ length w → length a ≡ n * n → w1 ≡ store w 0 a → reported o ≡ outcome x → reported given ≡ outcome y → reported o ≡ reported given
    → ρ ≡ report_at y (v (slot n w1 0)) → ρ' ≡ ρ → ρ' ≡ report_at x (v a)
report_delivered x y v ρ ρ' o given n a w w1 room size e1 h k d e e' =
    let a1 : slot n w1 0 ≡ a = ap (λ (z : List Float). slot n z 0) e1 ∙ slot_store n w 0 a size (omega (arith, room)) in
    e' ∙ e ∙ ap (λ (z : List Float). report_at y (v z)) a1 ∙ sym (report_as y (v a) given k) ∙ ap (λ (z : Result (Unit {0})). report_at z (v a)) (sym d) ∙ report_as x (v a) o h

-- the same with a second matrix, d, which is copied to slot t
pub report_delivered_both : {A B : Type 0} (x : Result A) (y : Result B) (v : List Float → List Float → Report) (ρ ρ' : Report) (o given : Outcome) (n t : ℕ) (a d w w1 w2 : List Float)
    → n ≤ 16 → 8192 ≤ length w → length a ≡ n * n → length d ≡ n * n → eqb 0 t ≡ false → t < 32 → w1 ≡ store w 0 a → w2 ≡ store w1 t d → reported o ≡ outcome x → reported given ≡ outcome y
    → reported o ≡ reported given → ρ ≡ report_at y (v (slot n w2 0) (slot n w2 t)) → ρ' ≡ ρ → ρ' ≡ report_at x (v a d)
report_delivered_both x y v ρ ρ' o given n t a d w w1 w2 small room size size' other far e1 e2 h k q e e' =
    let few = square_le n small in
    let long1 : length w1 ≡ length w = ap length e1 ∙ length-store w 0 a in
    let apart = slots_apart 0 t (n * n) (length d) other few (omega arith) in
    let a1 : slot n w1 0 ≡ a = ap (λ (z : List Float). slot n z 0) e1 ∙ slot_store n w 0 a size (omega arith) in
    let a2 : slot n w2 0 ≡ a = ap (λ (z : List Float). slot n z 0) e2 ∙ slot_other n w1 0 t d apart ∙ a1 in
    let d2 : slot n w2 t ≡ d = ap (λ (z : List Float). slot n z t) e2 ∙ slot_store n w1 t d size' (omega arith) in
    e' ∙ e ∙ (λ i. report_at y (v (a2 i) (d2 i))) ∙ sym (report_as y (v a d) given k) ∙ ap (λ (z : Result (Unit {0})). report_at z (v a d)) (sym q) ∙ report_as x (v a d) o h

-- no question refuses: the call reports what its function does
pub report_passed : {A : Type 0} (p : Profile) (c : Call) (q : Question) (h : found q ≡ asked p c) (x : Result A) (v ρ : Report) → q ≡ Ok tt → ρ ≡ report_at x v → ρ ≡ report_at (answer p c x) v
report_passed p c q h x v ρ t e = rw (answer_passed p c x q h t) e

-- what a part that is done reports, out of its contract
pub report_of_lem : {A : Type 0} (x : Result A) (v ρ : Report) (o : Outcome) (s : ℕ) → o ≡ Ok s → reported o ≡ outcome x → ρ ≡ report_at x v → ρ ≡ v
unfolding report_at exit
report_of_lem x v ρ o s eo h e = e ∙ sym (report_as x v o h) ∙ ap (λ (z : Outcome). report_at (reported z) v) eo

-- two parts: the second decides how both end
join : {A : Type 0} (x : Result A) (a b : Report) → report_at x (beside a (report_at x b)) ≡ report_at x (beside a b)
unfolding report_at exit
join (refused k i j) a b = refl
join (done s v) a b = refl

pub report_joined : {A B : Type 0} (x : Result A) (y : Result B) (a b ρ₁ ρ₂ ρ ρ' : Report) (o : Outcome) → reported o ≡ outcome y → reported o ≡ outcome x → ρ₁ ≡ a → ρ₂ ≡ report_at y b → ρ ≡ beside ρ₁ ρ₂
    → ρ' ≡ report_at (reported o) ρ → ρ' ≡ report_at x (beside a b)
report_joined x y a b ρ₁ ρ₂ ρ ρ' o k h e₁ e₂ e e' =
    e' ∙ ap (report_at (reported o)) (e ∙ (λ i. beside (e₁ i) ((e₂ ∙ sym (report_as y b o k)) i))) ∙ join (reported o) a b ∙ report_as x (beside a b) o h

-- ---- steps

pub same_steps : {r t : Report} → r ≡ t → r.steps ≡ t.steps
same_steps e = ap (λ (r : Report). r.steps) e

-- a refused part has none, and one that is done those of v
pub steps_few : {A : Type 0} (x : Result A) (v ρ : Report) (b : ℕ) → ρ ≡ report_at x v → v.steps ≤ b → ρ.steps ≤ b
unfolding report_at exit
steps_few (refused k i j) v ρ b e h = omega (arith, same_steps e)
steps_few (done s a) v ρ b e h = omega (arith, same_steps e, h)

-- ---- nothing adds nothing

smaller_none : (a : Float) → smaller a +infinity ≡ a
unfolding smaller lt
smaller_none nan = refl
smaller_none (inf s) = refl
smaller_none (fin s m e) = refl

plus_none : (k : ℕ) → k + 0 ≡ k
plus_none k = omega arith

and_none : (b : Bool) → (b && true) ≡ b
and_none true = refl
and_none false = refl

pub beside_nothing : (r : Report) → beside r nothing ≡ r
beside_nothing r = λ i. record { smallest = smaller_none r.smallest i; steps = plus_none r.steps i; settled = and_none r.settled i }
