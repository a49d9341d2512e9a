-- What a call of frechet_expm leaves. Assumes nothing.
use Rattle.std.specs.Prelude.{Ok, Err}
use Prim.Native.Nat.{ℕ, ◌+◌, ◌*◌, ◌<◌, ◌≤◌, ◌^◌}
use native.Mathlib.Nat.{add-mul}
use mathlib.Core.Path.{◌≡◌, refl, sym, ap, ◌∙◌}
use mathlib.Core.Bool.{Bool, true, cond}
use mathlib.Core.List.{List}
use native.Mathlib.Omega.{arith}
use lib.Dec.{ltb}
use lib.ListN.{length}
use lib.Ieee.{Float, Format, prec}
use Rattle.arithmetic_matrices.specs.Workspace.{slot, store, cleared, Only, Room}
use Rattle.arithmetic_questions.specs.Result.{Result, refused, done, outcome, exit, ◌>>=◌}
use Rattle.arithmetic_questions.specs.Questions.{Call, Profile, asked, answer}
use Rattle.arithmetic_questions.specs.Answers.{Question, Outcome, reported, found}
use Rattle.arithmetic_questions.specs.Outputs.{Both, TwoOutputsWith}
use Rattle.arithmetic_questions.specs.Kernels.{Replaced}
use Rattle.arithmetic_questions.specs.Reports.{report_at}
use Rattle.arithmetic_questions.specs.declared.answer.Refusal.{Refusal}
use Rattle.arithmetic_questions.specs.declared.answer.Report.{Report}
use Rattle.arithmetic_matrices.proofs.MatrixLaws.{square_le, length-grid, row_end}
use Rattle.arithmetic_matrices.proofs.Slots.{slot_store, only_store, only_trans, only_more, cleared_only}
use Rattle.arithmetic_matrices.proofs.States.{among, member_among}
use Rattle.arithmetic_questions.proofs.AnswerLaws.{answer_passed}
use Rattle.arithmetic_questions.proofs.ReportLaws.{report_delivered}
use Rattle.arithmetic_questions.proofs.OutputLaws.{Late, late_where, exit_done, exit_refused, exit_as}
use Rattle.functions_definitions.specs.Exponential.{block, quarter, exponential}
use Rattle.functions_definitions.specs.Powers.{exp_m, halvings_for}
use Rattle.functions_definitions.specs.Derivatives.{frechet_exp_m, block_quarters}
use Rattle.functions_definitions.specs.Reports.{exp_report, frechet_exp_report}
use Rattle.functions_exponential_derivative.specs.Kernels.{Quartered, Written}
use Rattle.functions_definitions.specs.Frechet.{FirstAlone}
use Rattle.arithmetic_matrices.specs.Norm.{norm1}
use Rattle.functions_definitions.proofs.HalvingLaws.{halvings_set, halvings_outcome, quarters_outcome}
use Rattle.functions_definitions.proofs.FirstOutput.{first_output_alone}

length-block : (n : ℕ) (a e : List Float) → length (block n a e) ≡ (n + n) * (n + n)
unfolding block
length-block n a e = length-grid (n + n) (n + n) _

-- and their outputs are the quarters of its output, v
quarters_read : (n : ℕ) (x : Result (List Float)) (v : List Float) → v ≡ exit (λ z. z) x v
    → (quarter n 0 v ≡ exit (λ (b : Both). b.value) (block_quarters n x) (quarter n 0 v)) × (quarter n n v ≡ exit (λ (b : Both). b.derivative) (block_quarters n x) (quarter n n v))
unfolding block_quarters exit
quarters_read n (refused k i j) v r = (refl, refl)
quarters_read n (done s x) v r = (ap (quarter n 0) r, ap (quarter n n) r)

-- ---- the rows of the block are within it, and it within its slot

pub block_rows : (n i : ℕ) → n ≤ 8 → i < n → (i * (n + n) + (n + n) ≤ n * (n + n)) × (n * (n + n) + n * (n + n) ≤ 256)
block_rows n i small h = (row_end i n (n + n) h, omega (arith, add-mul n n (n + n), square_le (n + n) (omega arith)))

-- ---- the ends of write_quarters

pub quartered_done : (n : ℕ) (given : Outcome) (w first first' second second' : List Float) (s : ℕ) → given ≡ Ok s → first' ≡ quarter n 0 (slot (n + n) w 0) → second' ≡ quarter n n (slot (n + n) w 0)
    → Quartered n given given w first first' second second'
quartered_done n given w first first' second second' s e p q = record { outcome = refl; value = p ∙ sym (exit_done _ first given s e); derivative = q ∙ sym (exit_done _ second given s e) }

pub quartered_none : (n : ℕ) (given : Outcome) (w first second : List Float) (y : Refusal) → given ≡ Err y → Quartered n given given w first first second second
quartered_none n given w first second y e = record { outcome = refl; value = sym (exit_refused _ first given y e); derivative = sym (exit_refused _ second given y e) }

-- ---- all the steps

-- the block is filled, its exponential takes its place, and the quarters are written
pub frechet_written : (f : Format) (n : ℕ) (ss : List ℕ) (a e first first' second second' w w1 w2 : List Float) (given o : Outcome) → Room (n + n) w → among (λ s. ltb s 32) ss ≡ true
    → w1 ≡ store w 0 (block n a e) → Replaced ss (n + n) (exp_m f (n + n) (slot (n + n) w1 0)) given w1 w2 → Quartered n given o w2 first first' second second'
    → Written (frechet_exp_m f n a e) o first first' second second' w w2
unfolding frechet_exp_m
frechet_written f n ss a e first first' second second' w w1 w2 given o r m e1 R Q =
    go (exp_m f (n + n) (block n a e)) R'.outcome R'.result
  where
    few : (n + n) * (n + n) ≤ 256
    few = square_le (n + n) r.order

    b : slot (n + n) w1 0 ≡ block n a e
    b = ap (λ (z : List Float). slot (n + n) z 0) e1 ∙ slot_store (n + n) w 0 (block n a e) (length-block n a e) (omega (arith, few, r.space))

    R' : Replaced ss (n + n) (exp_m f (n + n) (block n a e)) given w1 w2
    R' = rw b at R

    within : Only (λ s. ltb s 32) w w2
    within = only_trans (rw e1 (only_store (λ s. ltb s 32) w 0 (block n a e) refl (omega (arith, few, length-block n a e)))) (only_more (member_among (λ s. ltb s 32) ss m) R.only)

    go : (x : Result (List Float)) → reported given ≡ outcome x → slot (n + n) w2 0 ≡ exit (λ v. v) x (slot (n + n) w2 0) → Written (block_quarters n x) o first first' second second' w w2
    go x p q =
        let same : reported given ≡ outcome (block_quarters n x) = p ∙ sym (quarters_outcome n x) in
        let (v, d) = quarters_read n x (slot (n + n) w2 0) q in
        record {
          outcome = Q.outcome ∙ same;
          value = Q.value ∙ exit_as _ first given (block_quarters n x) (λ (b : Both). b.value) same v;
          derivative = Q.derivative ∙ exit_as _ second given (block_quarters n x) (λ (b : Both). b.derivative) same d;
          only = within;
        }

-- and the report is that of the block's exponential
pub frechet_reported : (f : Format) (n : ℕ) (a e w w1 : List Float) (given o : Outcome) (ρ ρ' : Report) → Room (n + n) w → w1 ≡ store w 0 (block n a e)
    → reported o ≡ outcome (frechet_exp_m f n a e) → reported given ≡ outcome (exp_m f (n + n) (slot (n + n) w1 0)) → reported o ≡ reported given
    → ρ ≡ report_at (exp_m f (n + n) (slot (n + n) w1 0)) (exp_report f (n + n) (slot (n + n) w1 0)) → ρ' ≡ ρ → ρ' ≡ report_at (frechet_exp_m f n a e) (frechet_exp_report f n a e)
unfolding frechet_exp_report
frechet_reported f n a e w w1 given o ρ ρ' r e1 h k same p q =
    report_delivered (frechet_exp_m f n a e) (exp_m f (n + n) (slot (n + n) w1 0)) (exp_report f (n + n)) ρ ρ' o given (n + n) (block n a e) w w1 (omega (arith, square_le (n + n) r.order, r.space)) (length-block n a e) e1 h k same p q

-- ---- the call

module _ (p : Profile) (c : Call) (q : Question) (h : found q ≡ asked p c) (clears : Bool) (o : Outcome) (x : Result Both) (first second w : List Float) where
  -- no question refuses: the outputs are written, and the workspace is cleared where `clears` is true
  pub two_written : (first' second' w1 w2 : List Float) → q ≡ Ok tt → Late x → 8192 ≤ length w → Written x o first first' second second' w w1 → w2 ≡ cond clears (cleared w1) w1
      → TwoOutputsWith clears (answer p c x) o first first' second second' w w2
  two_written first' second' w1 w2 e l room W v =
      rw (answer_passed p c x q h e) (record {
        outcome = W.outcome;
        value = W.value;
        derivative = W.derivative;
        workspace = late_where clears x w w1 w2 l v (cleared_only w w1 room W.only);
      })

-- A run that is done wrote the upper left quarter: so its first output is the exponential of A, whatever the direction, the workspace and the outputs were.
pub written_alone : (f : Format) (n : ℕ) (a e first first' second second' w w' : List Float) (o : Outcome) → n + n ≤ 2 ^ prec f
    → Written (frechet_exp_m f n a e) o first first' second second' w w' → FirstAlone f n o a e first'
unfolding frechet_exp_m exp_m block_quarters exit
written_alone f n a e first first' second second' w w' o h W s d v =
    let g : ℕ → List Float = λ s. exponential f (n + n) s (block n a e) in
    let x = norm1 f (n + n) (block n a e) in
    let E = halvings_set x g s (sym (halvings_outcome x g) ∙ sym (quarters_outcome n (halvings_for x >>= λ s. done s (g s))) ∙ sym W.outcome ∙ d) in
    W.value ∙ ap (λ (r : Result (List Float)). exit (λ (b : Both). b.value) (block_quarters n r) first) E ∙ first_output_alone f n s a e h v
