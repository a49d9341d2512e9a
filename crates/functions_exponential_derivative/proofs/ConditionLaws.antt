-- What a call of cond_expm answers. Assumes nothing.
use Rattle.std.specs.Prelude.{Ok, Err}
use Prim.Native.Nat.{ℕ, ◌*◌, ◌≤◌}
use native.Mathlib.Omega.{arith}
use mathlib.Core.Path.{◌≡◌, refl, sym, ap, ◌∙◌}
use mathlib.Core.Bool.{Bool, cond}
use mathlib.Core.List.{List}
use lib.Dec.{ltb}
use lib.ListN.{length}
use lib.IntN.{pos}
use lib.Ieee.{Float, Format, binary64, div, of_int}
use Rattle.arithmetic_floats.specs.Float.{one, constant}
use Rattle.arithmetic_floats.specs.Root.{sqrt_of}
use Rattle.arithmetic_floats.proofs.Widths.{root_once}
use Rattle.arithmetic_matrices.specs.Matrix.{part}
use Rattle.arithmetic_matrices.specs.Product.{diagonal_m}
use Rattle.arithmetic_matrices.specs.Norm.{frobenius}
use Rattle.arithmetic_matrices.specs.Workspace.{Room, store, cleared, Only}
use Rattle.arithmetic_questions.specs.Result.{Result, refused, done, outcome, exit}
use Rattle.arithmetic_questions.specs.Questions.{Call, Profile, asked, answer}
use Rattle.arithmetic_questions.specs.Answers.{Question, Outcome, numbered, reported, found}
use Rattle.arithmetic_questions.specs.Outputs.{WorkspaceLeft, Both}
use Rattle.arithmetic_questions.specs.Reports.{refused_report, report_at}
use Rattle.arithmetic_questions.specs.declared.answer.Refusal.{Refusal}
use Rattle.arithmetic_questions.specs.declared.answer.Report.{Report}
use Rattle.arithmetic_matrices.proofs.MatrixLaws.{square_le}
use Rattle.arithmetic_matrices.proofs.PartLaws.{part_put}
use Rattle.arithmetic_matrices.proofs.ProductLaws.{length-diagonal_m}
use Rattle.arithmetic_matrices.proofs.Slots.{only_store, only_trans, cleared_only}
use Rattle.arithmetic_questions.proofs.QuestionLaws.{as_refused}
use Rattle.arithmetic_questions.proofs.AnswerLaws.{answer_passed, outcome_no, exit_no}
use Rattle.arithmetic_questions.proofs.OutputLaws.{Late, late_where}
use Rattle.arithmetic_questions.proofs.ReportLaws.{report_as}
use Rattle.functions_definitions.specs.Derivatives.{Condition, unit_direction, condition_of, conditioned, cond_exp_m, frechet_exp_m}
use Rattle.functions_definitions.specs.Reports.{frechet_exp_report, cond_exp_report}
use Rattle.functions_exponential_derivative.specs.Kernels.{Written, rated}
use Rattle.functions_definitions.specs.Conditions.{no_condition, Conditioned}

-- the entries of the unit direction, as the code has them: u is 1, v the order, r its root
pub unit_number : (f : Format) (n : ℕ) (u v r : Float) → n ≤ 16 → u ≡ one → v ≡ of_int f (pos n) → r ≡ sqrt_of f v → div f u r ≡ div f one (constant f (sqrt_of binary64 (of_int binary64 (pos n))))
unit_number f n u v r h t e k = λ i. div f (t i) ((k ∙ ap (sqrt_of f) e ∙ sym (root_once f n h)) i)

-- what was stored in slot 0 is read back from it
pub unit_read : {k : ℕ} (x : Float) (n : ℕ) (w w1 out : List Float) → Room n w → k ≡ n * n → w1 ≡ store w 0 (diagonal_m n x) → out ≡ part w1 (256 * 0) k → out ≡ diagonal_m n x
unfolding store
unit_read x n w w1 out r size e f =
    f ∙ rw (e, size) (part_put w (256 * 0) (diagonal_m n x) (n * n) (length-diagonal_m n x) (omega (arith, square_le n r.order, r.space)))

-- ---- the answer, from an outcome

pub answered_done : (c z : Condition) (given : Outcome) (s : ℕ) → given ≡ Ok s → z ≡ c → Conditioned (rated c (reported given)) (Ok s) z
unfolding outcome exit
answered_done c z given s e h = rw e (record { outcome = refl; condition = h })

pub answered_none : (c z : Condition) (given o : Outcome) (y : Refusal) → given ≡ Err y → reported o ≡ numbered y → z ≡ no_condition → Conditioned (rated c (reported given)) o z
unfolding outcome exit
answered_none c z given o y e k h =
    let (i, j, l, n) = as_refused y in
    rw (e, n) (record { outcome = k ∙ n; condition = h })

pub reports_done : (v : Report) (given : Outcome) (s : ℕ) → given ≡ Ok s → v ≡ report_at (reported given) v
unfolding report_at exit
reports_done v given s e = rw e refl

pub reports_none : (v ρ : Report) (given : Outcome) (y : Refusal) → given ≡ Err y → ρ ≡ refused_report → ρ ≡ report_at (reported given) v
unfolding report_at exit
reports_none v ρ given y e k =
    let (i, j, l, n) = as_refused y in
    rw (e, n) k

-- what is read at an outcome twice
reports_twice : {A : Type 0} (x : Result A) (v : Report) → report_at x (report_at x v) ≡ report_at x v
unfolding report_at exit
reports_twice (refused k i j) v = refl
reports_twice (done s a) v = refl

-- ---- the unit direction, the derivative in it, and the answer

module _ (f : Format) (n : ℕ) (small : n ≤ 16) (a w w1 w2 e x x' d d' : List Float) (given : Outcome) (e1 : w1 ≡ store w 0 (unit_direction f n)) (ee : e ≡ unit_direction f n)
    (W : Written (frechet_exp_m f n a e) given x x' d d' w1 w2) where
  pub condition_only : Only (λ s. ltb s 32) w w2
  unfolding unit_direction
  condition_only = only_trans (rw e1 (only_store (λ s. ltb s 32) w 0 _ refl (rw length-diagonal_m (square_le n small)))) W.only

  pub condition_steps : (o : Outcome) (c : Condition) → Conditioned (rated (condition_of f (frobenius f n x') (frobenius f n d')) (reported given)) o c → Conditioned (cond_exp_m f n a) o c
  unfolding cond_exp_m conditioned outcome exit
  condition_steps o c C = go (frechet_exp_m f n a (unit_direction f n)) W'.outcome W'.value W'.derivative
    where
      W' : Written (frechet_exp_m f n a (unit_direction f n)) given x x' d d' w1 w2
      W' = rw ee at W

      go : (z : Result Both) → reported given ≡ outcome z → x' ≡ exit (λ (b : Both). b.value) z x → d' ≡ exit (λ (b : Both). b.derivative) z d → Conditioned (conditioned f n z) o c
      go (refused k i j) t u v = rw t at C
      go (done s b) t u v = rw (t, u, v) at C

  pub condition_reported : (ρ ρ' : Report) → ρ ≡ report_at (frechet_exp_m f n a e) (frechet_exp_report f n a e) → ρ' ≡ report_at (reported given) ρ → ρ' ≡ report_at (cond_exp_m f n a) (cond_exp_report f n a)
  unfolding cond_exp_m cond_exp_report report_at conditioned exit
  condition_reported ρ ρ' p q =
      let z = frechet_exp_m f n a (unit_direction f n) in
      let v = frechet_exp_report f n a (unit_direction f n) in
      let h : reported given ≡ outcome z = W.outcome ∙ ap (λ (e : List Float). outcome (frechet_exp_m f n a e)) ee in
      let u : ρ ≡ report_at (reported given) v = p ∙ ap (λ (e : List Float). report_at (frechet_exp_m f n a e) (frechet_exp_report f n a e)) ee ∙ sym (report_as z v given h) in
      q ∙ ap (report_at (reported given)) u ∙ reports_twice (reported given) v ∙ report_as z v given h ∙ same z v
    where
      same : (z : Result Both) (v : Report) → report_at z v ≡ report_at (conditioned f n z) v
      same (refused k i j) v = refl
      same (done s b) v = refl

-- ---- the call

module _ (P : Profile) (c : Call) (q : Question) (h : found q ≡ asked P c) (x : Result Condition) where
  -- a question refuses
  pub condition_refused : (o : Outcome) (z : Condition) (y : Refusal) → q ≡ Err y → reported o ≡ numbered y → z ≡ no_condition → Conditioned (answer P c x) o z
  condition_refused o z y t k e = record { outcome = k ∙ sym (outcome_no P c x q h y t); condition = e ∙ sym (exit_no P c x q h y t (λ v. v) no_condition) }

  -- none does
  pub condition_passed : (o : Outcome) (z : Condition) → q ≡ Ok tt → Conditioned x o z → Conditioned (answer P c x) o z
  condition_passed o z t C = rw (answer_passed P c x q h t) C

  pub workspace_passed : (clears : Bool) (w w1 w2 : List Float) → q ≡ Ok tt → Late x → 8192 ≤ length w → Only (λ s. ltb s 32) w w1 → w2 ≡ cond clears (cleared w1) w1
      → WorkspaceLeft clears (answer P c x) w w2
  workspace_passed clears w w1 w2 t l room only v = rw (answer_passed P c x q h t) (late_where clears x w w1 w2 l v (cleared_only w w1 room only))
