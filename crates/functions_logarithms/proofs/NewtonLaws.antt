-- Laws of a pass of Newton's iteration in a workspace. Assumes nothing.
use Rattle.std.specs.Prelude.{Ok}
use Prim.Native.Nat.{ℕ}
use native.Mathlib.Omega.{arith}
use mathlib.Core.Path.{◌≡◌, refl, sym, ap, ◌∙◌}
use mathlib.Core.Bool.{Bool, cond}
use mathlib.Core.List.{List, [], ◌∷◌}
use mathlib.Core.Option.{none, some}
use lib.IntN.{pos}
use lib.Ieee.{Float, Format, lt, div, of_int}
use Rattle.arithmetic_floats.specs.Float.{one, epsilon}
use Rattle.arithmetic_floats.specs.Root.{sqrt_of}
use Rattle.arithmetic_matrices.specs.Product.{mean_m, diagonal_m}
use Rattle.arithmetic_matrices.specs.Norm.{norm_of_difference, trace}
use Rattle.arithmetic_matrices.specs.Workspace.{Room, slot, store, member, Only}
use Rattle.arithmetic_questions.specs.Reports.{nothing, factored}
use Rattle.arithmetic_questions.specs.declared.answer.Report.{Report}
use Rattle.arithmetic_questions.proofs.ReportLaws.{same_steps}
use Rattle.arithmetic_matrices.proofs.MatrixLaws.{square_le}
use Rattle.arithmetic_matrices.proofs.Slots.{slot_only, only_trans, only_more}
use Rattle.arithmetic_matrices.proofs.States.{start, step_mean, step_copy, step_call, step_diagonal, held_at, member_among}
use Rattle.lu_factoring.specs.Pivots.{smallest_pivot}
use Rattle.lu_factoring.specs.Solve.{division, where_factored}
use Rattle.functions_definitions.specs.Iterate.{after, verdict}
use Rattle.functions_definitions.specs.Reports.{lu_report, iteration_report, newton_report}
use Rattle.functions_definitions.specs.Roots.{root_tolerance, pass_limit, newton_next, newton_step, newton_scale, newton_start, newton}
use Rattle.functions_roots.specs.Kernels.{as_step, tested, ReportedPass, ReportedPasses, SlotQuotient, NewtonMean}
use Rattle.functions_roots.specs.declared.pass.Pass.{Pass}
use Rattle.functions_roots.specs.declared.pass.Passed.{Passed}
use Rattle.functions_roots.specs.declared.pass.Pass.TheVariants.{Failed}
use Rattle.functions_roots.proofs.PassLaws.{step_tested, failed_reports}
use Rattle.functions_logarithms.specs.Kernels.{ReportedNewton}
use Rattle.lu_factoring.specs.Lu.{LuOutcome, singular}

-- the slots that a pass changes, and where x stands
abbrev pub used : List ℕ
used = 1 ∷ 2 ∷ 3 ∷ []

abbrev pub root : ℕ → List Float → List Float
root n w = slot n w 1

module _ (f : Format) (n : ℕ) (w₀ : List Float) (r : Room n w₀) where
  pub newton_mean_steps : (w1 w2 : List Float) (d : Float) (p : Pass) → w1 ≡ store w₀ 2 (mean_m f n (slot n w₀ 1) (slot n w₀ 3)) → d ≡ norm_of_difference f n (slot n w1 1) (slot n w1 2)
      → w2 ≡ store w1 1 (slot n w1 2) → p ≡ tested (lt d (root_tolerance f)) → NewtonMean f n p w₀ w2
  unfolding newton_next
  newton_mean_steps w1 w2 d p e1 ed e2 ep =
      let x = slot n w₀ 1 in
      let m = mean_m f n x (slot n w₀ 3) in
      let s1 = step_mean n r.order f 1 3 2 (start (member (1 ∷ 2 ∷ [])) n r) e1 refl refl refl refl in
      let s2 = step_copy n r.order 2 1 s1 e2 refl refl refl in
      let ed' : d ≡ norm_of_difference f n x m = ed ∙ (λ i. norm_of_difference f n (held_at 1 n s1 refl i) (held_at 2 n s1 refl i)) in
      record {
        step = (λ i. as_step (ep i) (held_at 1 n s2 refl i)) ∙ step_tested (lt d (root_tolerance f)) m ∙ ap (λ (c : Float). verdict (lt c (root_tolerance f)) m) ed';
        only = s2.only;
      }

  module _ (w1 w2 w3 : List Float) (o : LuOutcome) (e1 : w1 ≡ store w₀ 2 (slot n w₀ 1)) (e2 : w2 ≡ store w1 3 (slot n w1 0)) (Q : SlotQuotient f n 3 o w2 w3) where
    -- x is factored; once the system is solved x is as it was, and slot 3 holds y
    solved : (slot n w2 2 ≡ slot n w₀ 1) × (slot n w3 1 ≡ slot n w₀ 1) × (where_factored o (slot n w3 3) ≡ division f n (slot n w₀ 1) (slot n w₀ 0)) × Only (member used) w₀ w3
    solved =
        let s1 = step_copy n r.order 1 2 (start (member used) n r) e1 refl refl refl in
        let s2 = step_copy n r.order 0 3 s1 e2 refl refl refl in
        let s3 = step_call (2 ∷ 3 ∷ []) s2 Q.only (member_among (member used) (2 ∷ 3 ∷ []) refl) in
        (held_at 2 n s2 refl, held_at 1 n s3 refl, Q.result ∙ (λ i. division f n (held_at 2 n s2 refl i) (held_at 3 n s2 refl i)), s3.only)

    -- v is the smallest pivot
    pub newton_passed : (w4 : List Float) (p : Pass) (v : Float) (ρ : Report) → o ≡ Ok tt → NewtonMean f n p w3 w4 → v ≡ smallest_pivot f n (slot n w2 2) → ρ ≡ factored v
        → ReportedPass (newton_step f n (slot n w₀ 0)) (lu_report f n) (root n) used (record { pass = p; report = ρ }) w₀ w4
    unfolding newton_step lu_report
    newton_passed w4 p v ρ eo M ev e =
        let q : some (slot n w3 3) ≡ division f n (slot n w₀ 1) (slot n w₀ 0) = ap (λ (z : LuOutcome). where_factored z (slot n w3 3)) (sym eo) ∙ solved.2 in
        record {
          passed = record {
            step = M.step ∙ (λ i. newton_next f n (solved.1 i) (q i));
            only = only_trans solved.3 (only_more (member_among (member used) (1 ∷ 2 ∷ []) refl) M.only);
          };
          reports = record { few = omega (arith, same_steps e); report = λ _. e ∙ ap factored (ev ∙ ap (smallest_pivot f n) solved.0) };
        }

    pub newton_failed : (k : ℕ) (ρ : Report) → o ≡ singular k → ρ ≡ nothing → ReportedPass (newton_step f n (slot n w₀ 0)) (lu_report f n) (root n) used (record { pass = Failed; report = ρ }) w₀ w3
    unfolding newton_step newton_next
    newton_failed k ρ eo e =
        let q : none ≡ division f n (slot n w₀ 1) (slot n w₀ 0) = ap (λ (z : LuOutcome). where_factored z (slot n w3 3)) (sym eo) ∙ solved.2 in
        record { passed = record { step = ap (newton_next f n (slot n w₀ 1)) q; only = solved.3 }; reports = failed_reports e }

  -- a pass on the way is a step for the matrix with which the passes began
  pub newton_same : (w w' : List Float) (p : Passed) → Only (member used) w₀ w → ReportedPass (newton_step f n (slot n w 0)) (lu_report f n) (root n) used p w w'
      → ReportedPass (newton_step f n (slot n w₀ 0)) (lu_report f n) (root n) used p w w'
  newton_same w w' p o P = rw (slot_only n (member used) w₀ w 0 1 o (omega (arith, square_le n r.order)) refl) at P

  pub newton_all : (w1 w2 : List Float) (d : Float) (p : Passed) → d ≡ newton_scale f n (slot n w₀ 0) → w1 ≡ store w₀ 1 (diagonal_m n d)
      → ReportedPasses (λ _. newton_step f n (slot n w1 0)) (lu_report f n) pass_limit (root n) used p w1 w2 → ReportedNewton f n p w₀ w2
  unfolding newton newton_start newton_report
  newton_all w1 w2 d p ed e1 P =
      let s1 = step_diagonal n r.order d 1 (start (member used) n r) e1 refl refl in
      let x : slot n w1 1 ≡ diagonal_m n (newton_scale f n (slot n w₀ 0)) = held_at 1 n s1 refl ∙ ap (diagonal_m n) ed in
      record {
        root = record {
          step = P.passed.step ∙ (λ i. after (λ _. newton_step f n (held_at 0 n s1 refl i)) (x i) pass_limit);
          only = only_trans s1.only P.passed.only;
        };
        reports = record {
          few = P.reports.few;
          report = λ e. P.reports.report e ∙ (λ i. iteration_report (lu_report f n) (after (λ _. newton_step f n (held_at 0 n s1 refl i)) (x i)) pass_limit);
        };
      }

-- ---- the start's scale, by the test that the code makes

module _ (f : Format) (n : ℕ) (w : List Float) (x : Float) (ex : x ≡ sqrt_of f (div f (trace f n (slot n w 0)) (of_int f (pos n)))) where
  pub scale_is : (b : Bool) → lt (epsilon f) x ≡ b → cond b x one ≡ newton_scale f n (slot n w 0)
  unfolding newton_scale
  scale_is b e = ap (λ (b : Bool). cond b x one) (sym e) ∙ ap (λ (y : Float). cond (lt (epsilon f) y) y one) ex
