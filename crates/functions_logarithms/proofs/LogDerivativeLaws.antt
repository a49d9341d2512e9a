-- Laws of the difference quotient of two logarithms in a workspace. Assumes nothing.
use Rattle.std.specs.Prelude.{Ok, Err}
use Prim.Native.Nat.{ℕ}
use mathlib.Core.Path.{◌≡◌, refl, sym, ap, ◌∙◌}
use mathlib.Core.List.{List, [], ◌∷◌}
use lib.Ieee.{Float, Format}
use Rattle.arithmetic_matrices.specs.Product.{add_multiple_m, difference_quotient_m}
use Rattle.arithmetic_matrices.specs.Workspace.{Room, slot, store, member, Only}
use Rattle.arithmetic_questions.specs.Result.{done, ◌>>=◌, outcome, exit}
use Rattle.arithmetic_questions.specs.Answers.{Outcome, numbered, reported}
use Rattle.arithmetic_questions.specs.Kernels.{Replaced, ReplacedBoth}
use Rattle.arithmetic_questions.specs.Reports.{beside, report_at}
use Rattle.arithmetic_questions.specs.declared.answer.Refusal.{Refusal}
use Rattle.arithmetic_questions.specs.declared.answer.Report.{Report}
use Rattle.arithmetic_questions.proofs.BothLaws.{call_done, both_refused, both_follows}
use Rattle.arithmetic_questions.proofs.ReportLaws.{report_of_lem, report_done, report_joined}
use Rattle.arithmetic_matrices.proofs.Slots.{only_trans, only_more}
use Rattle.arithmetic_matrices.proofs.States.{start, step_copy, step_accumulate, step_difference_quotient, step_call, held_at, member_among}
use Rattle.functions_definitions.specs.Logarithm.{logarithm}
use Rattle.functions_definitions.specs.Derivatives.{log_step, frechet_log_m, second_logarithm}
use Rattle.functions_definitions.specs.Reports.{log_report, frechet_log_report}
use Rattle.functions_logarithms.specs.Kernels.{QuotientPlaced}
use Rattle.functions_logarithms.proofs.LogarithmLaws.{used}

-- the slots that change
abbrev moved : List ℕ
moved = 0 ∷ 1 ∷ 2 ∷ 3 ∷ 5 ∷ 6 ∷ []

module _ (f : Format) (n : ℕ) (w₀ : List Float) (r : Room n w₀) where
  pub quotient_placed : (w1 w2 w3 : List Float) (h : Float) → h ≡ log_step f → w1 ≡ store w₀ 0 (difference_quotient_m f n h (slot n w₀ 0) (slot n w₀ 6)) → w2 ≡ store w1 1 (slot n w1 0)
      → w3 ≡ store w2 0 (slot n w2 6) → QuotientPlaced f n w₀ w3
  quotient_placed w1 w2 w3 h eh e1 e2 e3 =
      let s1 = step_difference_quotient n r.order f h 0 6 (start (member (0 ∷ 1 ∷ [])) n r) e1 refl refl refl refl in
      let s2 = step_copy n r.order 0 1 s1 e2 refl refl refl in
      let s3 = step_copy n r.order 6 0 s2 e3 refl refl refl in
      record {
        value = held_at 0 n s3 refl;
        derivative = held_at 1 n s3 refl ∙ ap (λ (c : Float). difference_quotient_m f n c (slot n w₀ 0) (slot n w₀ 6)) eh;
        only = s3.only;
      }

  -- ---- the second logarithm

  module _ (w1 w2 w3 w4 : List Float) (h : Float) (o : Outcome) (e1 : w1 ≡ store w₀ 6 (slot n w₀ 0)) (eh : h ≡ log_step f) (e2 : w2 ≡ store w1 5 (add_multiple_m f n h (slot n w1 4) (slot n w1 5)))
      (e3 : w3 ≡ store w2 0 (slot n w2 5)) (R : Replaced used n (logarithm f n (slot n w3 0)) o w3 w4) where
    -- the matrix moved a step; the first logarithm is kept
    shifted : (slot n w3 0 ≡ add_multiple_m f n (log_step f) (slot n w₀ 4) (slot n w₀ 5)) × (slot n w4 6 ≡ slot n w₀ 0) × Only (member moved) w₀ w4
    shifted =
        let s1 = step_copy n r.order 0 6 (start (member moved) n r) e1 refl refl refl in
        let s2 = step_accumulate n r.order f h 5 4 s1 e2 refl refl refl refl in
        let s3 = step_copy n r.order 5 0 s2 e3 refl refl refl in
        let s4 = step_call used s3 R.only (member_among (member moved) used refl) in
        (held_at 0 n s3 refl ∙ ap (λ (c : Float). add_multiple_m f n c (slot n w₀ 4) (slot n w₀ 5)) eh, held_at 6 n s4 refl, s4.only)

    pub second_done : (s : ℕ) (w5 : List Float) → o ≡ Ok s → QuotientPlaced f n w4 w5 → ReplacedBoth moved n (second_logarithm f n (slot n w₀ 5) (slot n w₀ 4) (slot n w₀ 0)) (Ok 0) w₀ w5
    unfolding second_logarithm ◌>>=◌ outcome exit
    second_done s w5 eo P =
        let x : logarithm f n (add_multiple_m f n (log_step f) (slot n w₀ 4) (slot n w₀ 5)) ≡ done s (slot n w4 0) =
        ap (logarithm f n) (sym shifted.0) ∙ call_done (logarithm f n (slot n w3 0)) o (slot n w4 0) s R.outcome R.result eo in
        rw x
        (record {
          outcome = refl;
          value = P.value ∙ shifted.1;
          derivative = P.derivative ∙ ap (difference_quotient_m f n (log_step f) (slot n w4 0)) shifted.1;
          only = only_trans shifted.2 (only_more (member_among (member moved) (0 ∷ 1 ∷ []) refl) P.only);
        })

    -- what it reports is the logarithm's
    pub second_reported : (s : ℕ) (ρ : Report) (w5 : List Float) → o ≡ Ok s → QuotientPlaced f n w4 w5 → ρ ≡ report_at (logarithm f n (slot n w3 0)) (log_report f n (slot n w3 0))
        → ρ ≡ report_at (second_logarithm f n (slot n w₀ 5) (slot n w₀ 4) (slot n w₀ 0)) (log_report f n (add_multiple_m f n (log_step f) (slot n w₀ 4) (slot n w₀ 5)))
    second_reported s ρ w5 eo P e =
        report_of_lem (logarithm f n (slot n w3 0)) (log_report f n (slot n w3 0)) ρ o s eo R.outcome e
        ∙ ap (log_report f n) shifted.0
        ∙ report_done (second_logarithm f n (slot n w₀ 5) (slot n w₀ 4) (slot n w₀ 0)) (log_report f n (add_multiple_m f n (log_step f) (slot n w₀ 4) (slot n w₀ 5))) 0 (second_done s w5 eo P).outcome

    pub second_refused : (y : Refusal) (q : Outcome) → o ≡ Err y → reported q ≡ numbered y → ReplacedBoth moved n (second_logarithm f n (slot n w₀ 5) (slot n w₀ 4) (slot n w₀ 0)) q w₀ w4
    unfolding second_logarithm
    second_refused y q eo h =
        both_refused (logarithm f n (add_multiple_m f n (log_step f) (slot n w₀ 4) (slot n w₀ 5))) _ moved n o q y w₀ w4 (R.outcome ∙ ap (λ (a : List Float). outcome (logarithm f n a)) shifted.0) eo h shifted.2

  -- ---- both

  module _ (w1 w2 : List Float) (o : Outcome) (e1 : w1 ≡ store w₀ 5 (slot n w₀ 0)) (R : Replaced used n (logarithm f n (slot n w1 0)) o w1 w2) where
    first : (slot n w1 0 ≡ slot n w₀ 0) × (slot n w2 4 ≡ slot n w₀ 4) × (slot n w2 5 ≡ slot n w₀ 0) × Only (member moved) w₀ w2
    first =
        let s1 = step_copy n r.order 0 5 (start (member moved) n r) e1 refl refl refl in
        let s2 = step_call used s1 R.only (member_among (member moved) used refl) in
        (held_at 0 n s1 refl, held_at 4 n s2 refl, held_at 5 n s2 refl, s2.only)

    pub frechet_follows : (s : ℕ) (p : Outcome) (w3 : List Float) → o ≡ Ok s → ReplacedBoth moved n (second_logarithm f n (slot n w2 5) (slot n w2 4) (slot n w2 0)) p w2 w3
        → ReplacedBoth moved n (frechet_log_m f n (slot n w₀ 0) (slot n w₀ 4)) p w₀ w3
    unfolding frechet_log_m second_logarithm
    frechet_follows s p w3 eo S =
        let x : logarithm f n (slot n w₀ 0) ≡ done s (slot n w2 0) = ap (logarithm f n) (sym first.0) ∙ call_done (logarithm f n (slot n w1 0)) o (slot n w2 0) s R.outcome R.result eo in
        let S' : ReplacedBoth moved n (second_logarithm f n (slot n w₀ 0) (slot n w₀ 4) (slot n w2 0)) p w2 w3 = rw (first.1, first.2) at S in
        both_follows (logarithm f n (slot n w₀ 0)) (second_logarithm f n (slot n w₀ 0) (slot n w₀ 4)) (slot n w2 0) s n moved p w₀ w2 w3 x first.3 S'

    -- what both logarithms report, each by its contract, and then joined
    pub frechet_reported : (s : ℕ) (p : Outcome) (w3 : List Float) (ρ₁ ρ₂ ρ ρ' : Report) → o ≡ Ok s → ReplacedBoth moved n (second_logarithm f n (slot n w2 5) (slot n w2 4) (slot n w2 0)) p w2 w3
        → ρ₁ ≡ report_at (logarithm f n (slot n w1 0)) (log_report f n (slot n w1 0))
        → ρ₂ ≡ report_at (second_logarithm f n (slot n w2 5) (slot n w2 4) (slot n w2 0)) (log_report f n (add_multiple_m f n (log_step f) (slot n w2 4) (slot n w2 5))) → ρ ≡ beside ρ₁ ρ₂
        → ρ' ≡ report_at (reported p) ρ → ρ' ≡ report_at (frechet_log_m f n (slot n w₀ 0) (slot n w₀ 4)) (frechet_log_report f n (slot n w₀ 0) (slot n w₀ 4))
    unfolding frechet_log_report
    frechet_reported s p w3 ρ₁ ρ₂ ρ ρ' eo S e₁ e₂ e e' =
        let x = second_logarithm f n (slot n w2 5) (slot n w2 4) (slot n w2 0) in
        let a : ρ₁ ≡ log_report f n (slot n w₀ 0) = report_of_lem (logarithm f n (slot n w1 0)) (log_report f n (slot n w1 0)) ρ₁ o s eo R.outcome e₁ ∙ ap (log_report f n) first.0 in
        let b : ρ₂ ≡ report_at x (log_report f n (add_multiple_m f n (log_step f) (slot n w₀ 4) (slot n w₀ 0))) = e₂ ∙ (λ i. report_at x (log_report f n (add_multiple_m f n (log_step f) (first.1 i) (first.2 i)))) in
        report_joined (frechet_log_m f n (slot n w₀ 0) (slot n w₀ 4)) x (log_report f n (slot n w₀ 0)) (log_report f n (add_multiple_m f n (log_step f) (slot n w₀ 4) (slot n w₀ 0))) ρ₁ ρ₂ ρ ρ' p S.outcome (frechet_follows s p w3 eo S).outcome a b e e'

    pub frechet_refused : (y : Refusal) (q : Outcome) → o ≡ Err y → reported q ≡ numbered y → ReplacedBoth moved n (frechet_log_m f n (slot n w₀ 0) (slot n w₀ 4)) q w₀ w2
    unfolding frechet_log_m
    frechet_refused y q eo h =
        both_refused (logarithm f n (slot n w₀ 0)) _ moved n o q y w₀ w2 (R.outcome ∙ ap (λ (a : List Float). outcome (logarithm f n a)) first.0) eo h first.3
