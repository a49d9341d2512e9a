-- Laws of powers: the exponent that is taken for whole, and exp (p log A) in a workspace. Assumes nothing.
use Rattle.std.specs.Prelude.{Ok}
use mathlib.Core.Path.{◌≡◌, refl, sym, ap, ◌∙◌}
use mathlib.Core.List.{List, [], ◌∷◌}
use mathlib.Core.Bool.{Bool, true, false, cond}
use Prim.Native.Nat.{ℕ, ◌^◌}
use lib.IntN.{ℤ}
use lib.Count.{count_trailing_zeros}
use lib.Ieee.{Float, Format, binary64, of_bits, of_fields, odd, round, units, size}
use Rattle.arithmetic_floats.specs.Float.{near_integer, integer_of}
use Rattle.arithmetic_matrices.specs.Product.{times_m}
use Rattle.arithmetic_matrices.specs.Workspace.{Room, slot, store, member}
use Rattle.arithmetic_questions.specs.Result.{Result, outcome}
use Rattle.arithmetic_questions.specs.Answers.{Outcome, reported}
use Rattle.arithmetic_questions.specs.Kernels.{Replaced}
use Rattle.arithmetic_questions.specs.Reports.{beside, report_at}
use Rattle.arithmetic_questions.specs.declared.answer.Report.{Report}
use Rattle.arithmetic_questions.proofs.ReportLaws.{report_of_lem, report_joined}
use Rattle.arithmetic_matrices.proofs.Slots.{only_trans}
use Rattle.arithmetic_matrices.proofs.States.{start, held_at, step_times, step_copy}
use Rattle.functions_definitions.specs.Logarithm.{logarithm}
use Rattle.functions_definitions.specs.Powers.{exp_m, multiple_exponential, whole_power, fractional_power, is_whole, power_m}
use Rattle.functions_definitions.specs.Reports.{exp_report, log_report, whole_report, fractional_report, power_report}
use Rattle.functions_definitions.proofs.GatheredLaws.{followed_as}

-- ---- the exponent

-- the constant 1e-14 of the code
limit_bits : of_bits binary64 0x3d06_849b_86a1_2b9b ≡ round binary64 false 1 (10 ^ 14)
unfolding of_bits of_fields odd count_trailing_zeros round units size
limit_bits = refl

-- what the code's test says of p
pub whole_told : {b r : Bool} (p : Float) → r ≡ near_integer binary64 (of_bits binary64 0x3d06_849b_86a1_2b9b) p → r ≡ b → is_whole p ≡ b
unfolding is_whole
whole_told p e q = ap (λ (x : Float). near_integer binary64 x p) (sym limit_bits) ∙ sym e ∙ q

module _ (f : Format) (n : ℕ) (a : List Float) (p : Float) where
  pub power_whole : (e : ℤ) → is_whole p ≡ true → e ≡ integer_of binary64 p → whole_power f n a e ≡ power_m f n a p
  unfolding power_m
  power_whole e h k = ap (whole_power f n a) k ∙ ap (λ (b : Bool). cond b (whole_power f n a (integer_of binary64 p)) (fractional_power f n a p)) (sym h)

  pub power_fractional : is_whole p ≡ false → fractional_power f n a p ≡ power_m f n a p
  unfolding power_m
  power_fractional h = ap (λ (b : Bool). cond b (whole_power f n a (integer_of binary64 p)) (fractional_power f n a p)) (sym h)

  -- and what each reports
  pub reports_whole : (e : ℤ) → is_whole p ≡ true → e ≡ integer_of binary64 p → whole_report f n a e ≡ power_report f n a p
  unfolding power_report
  reports_whole e h k = ap (whole_report f n a) k ∙ ap (λ (b : Bool). cond b (whole_report f n a (integer_of binary64 p)) (fractional_report f n a p)) (sym h)

  pub reports_fractional : is_whole p ≡ false → fractional_report f n a p ≡ power_report f n a p
  unfolding power_report
  reports_fractional h = ap (λ (b : Bool). cond b (whole_report f n a (integer_of binary64 p)) (fractional_report f n a p)) (sym h)

-- ---- p times the matrix in slot 0 takes its place, and what g gives for it replaces that

module _ (f : Format) (n : ℕ) (p : Float) (w₀ w1 w2 : List Float) (r : Room n w₀) (e1 : w1 ≡ store w₀ 1 (times_m f n p (slot n w₀ 0))) (e2 : w2 ≡ store w1 0 (slot n w1 1)) where
  pub multiple_replaced : (g : List Float → Result (List Float)) (o : Outcome) (w3 : List Float) → Replaced (0 ∷ 1 ∷ 2 ∷ 3 ∷ 4 ∷ 5 ∷ []) n (g (slot n w2 0)) o w2 w3
      → Replaced (0 ∷ 1 ∷ 2 ∷ 3 ∷ 4 ∷ 5 ∷ []) n (g (times_m f n p (slot n w₀ 0))) o w₀ w3
  multiple_replaced g o w3 R =
      let s1 = step_times n r.order f p 0 1 (start (member (0 ∷ 1 ∷ 2 ∷ 3 ∷ 4 ∷ 5 ∷ [])) n r) e1 refl refl refl in
      let s2 = step_copy n r.order 1 0 s1 e2 refl refl refl in
      rw (← held_at 0 n s2 refl) (record { outcome = R.outcome; result = R.result; only = only_trans s2.only R.only })

  pub multiple_reported : (ρ : Report) → ρ ≡ report_at (exp_m f n (slot n w2 0)) (exp_report f n (slot n w2 0)) → ρ ≡ report_at (exp_m f n (times_m f n p (slot n w₀ 0))) (exp_report f n (times_m f n p (slot n w₀ 0)))
  multiple_reported ρ e =
      let s1 = step_times n r.order f p 0 1 (start (member (0 ∷ 1 ∷ [])) n r) e1 refl refl refl in
      let s2 = step_copy n r.order 1 0 s1 e2 refl refl refl in
      e ∙ ap (λ (z : List Float). report_at (exp_m f n z) (exp_report f n z)) (held_at 0 n s2 refl)

-- ---- the logarithm, and then the exponential of p times what it left in slot 0: ρ₁ and ρ₂ are their reports

pub fractional_reported : (f : Format) (n s : ℕ) (p : Float) (a : List Float) (ss : List ℕ) (o o' : Outcome) (w w1 : List Float) (ρ₁ ρ₂ ρ ρ' : Report) → Replaced ss n (logarithm f n a) o w w1 → o ≡ Ok s
    → reported o' ≡ outcome (multiple_exponential f n p (slot n w1 0)) → reported o' ≡ outcome (fractional_power f n a p)
    → ρ₁ ≡ report_at (logarithm f n a) (log_report f n a) → ρ₂ ≡ report_at (multiple_exponential f n p (slot n w1 0)) (exp_report f n (times_m f n p (slot n w1 0))) → ρ ≡ beside ρ₁ ρ₂ → ρ' ≡ report_at (reported o') ρ
    → ρ' ≡ report_at (fractional_power f n a p) (fractional_report f n a p)
unfolding fractional_report
fractional_reported f n s p a ss o o' w w1 ρ₁ ρ₂ ρ ρ' R eo k h e₁ e₂ e e' =
    let y = slot n w1 0 in
    let x = logarithm f n a in
    report_joined (fractional_power f n a p) (multiple_exponential f n p y) (log_report f n a) (exp_report f n (times_m f n p y)) ρ₁ ρ₂ ρ ρ' o' k h (report_of_lem x (log_report f n a) ρ₁ o s eo R.outcome e₁) e₂ e e'
    ∙ ap (report_at (fractional_power f n a p)) (sym (followed_as x (log_report f n a) (λ l. exp_report f n (times_m f n p l)) s y (sym (ap reported eo) ∙ R.outcome) R.result))
