-- Laws of a loop over passes in a workspace, for every state that is read from it, and of a system in slots. Assumes nothing.
use Rattle.std.specs.Prelude.{Ok, Err}
use Prim.Native.Nat.{ℕ, ◌+◌, ◌*◌, ◌≤◌, ◌<◌}
use native.Mathlib.Omega.{arith}
use mathlib.Core.Path.{◌≡◌, refl, sym, ap, ◌∙◌}
use mathlib.Core.Bool.{Bool, true, false, true≢false}
use mathlib.Core.List.{List}
use mathlib.Core.Option.{some}
use lib.Dec.{eqb}
use lib.Ieee.{Float, Format, sub}
use Rattle.arithmetic_floats.specs.Root.{sqrt_of}
use Rattle.arithmetic_matrices.specs.Matrix.{part, tab, item}
use Rattle.arithmetic_matrices.specs.Norm.{sum_of_squares, frobenius, norm_of_difference}
use Rattle.arithmetic_questions.specs.Result.{done, refused}
use Rattle.arithmetic_questions.specs.Reports.{nothing, iterated, beside}
use Rattle.arithmetic_questions.specs.declared.answer.Report.{Report}
use Rattle.arithmetic_questions.proofs.ReportLaws.{same_steps}
use Rattle.arithmetic_matrices.specs.Workspace.{Room, slot, member, Only}
use Rattle.arithmetic_matrices.proofs.ProductLaws.{sub_m_parts}
use Rattle.arithmetic_matrices.proofs.Slots.{only_refl, only_trans}
use Rattle.lu_factoring.specs.Lu.{LuOutcome, lu_outcome}
use Rattle.lu_factoring.specs.Kernels.{divided}
use Rattle.lu_factoring.specs.Solve.{stand_in, quotient, division, where_factored}
use Rattle.lu_factoring.proofs.DivisionLaws.{divided_slot, divided_only}
use Rattle.functions_definitions.specs.Roots.{pass_limit}
use Rattle.functions_definitions.specs.Reports.{passes_report}
use Rattle.functions_definitions.specs.Iterate.{Step, running, stopped, after, verdict, ended}
use Rattle.functions_roots.specs.Kernels.{as_step, tested, answered, OnePass, Passes, Reports, ReportedPass, ReportedPasses, SlotQuotient}
use Rattle.functions_roots.specs.declared.pass.Pass.{Pass}
use Rattle.functions_roots.specs.declared.pass.Passed.{Passed}
use Rattle.functions_roots.specs.declared.pass.Pass.TheVariants.{Running, Stopped, Failed}
use Rattle.functions_definitions.proofs.IterateLaws.{goes_on, stops, fails, runs_out}
use Rattle.functions_definitions.proofs.GatheredLaws.{gives, counted_stops, counted_out, reporting_none, reporting_more, reporting_stops, reporting_out, iteration_reports}

-- a pass that its test ends, as the definitions say it
pub step_tested : {S : Type 0} (b : Bool) (x : S) → as_step (tested b) x ≡ verdict b x
step_tested true x = refl
step_tested false x = refl

-- the norm of the difference of two slots, from the sum of the squares
pub root_of_squares : (f : Format) (n : ℕ) (w : List Float) (a b : ℕ) (s : Float) → s ≡ sum_of_squares f (n * n) (tab (n * n) (λ i. sub f (item w (256 * a + i)) (item w (256 * b + i)))) → sqrt_of f s ≡ norm_of_difference f n (slot n w a) (slot n w b)
unfolding norm_of_difference frobenius slot
root_of_squares f n w a b s e = ap (sqrt_of f) e ∙ ap (λ (x : List Float). sqrt_of f (sum_of_squares f (n * n) x)) (sym (sub_m_parts f n w (256 * a) (256 * b)))

-- what an iteration that has a result ends with, and one that failed
pub answers_ended : {S : Type 0} (p : Pass) (x : S) → answered p ≡ true → done 0 x ≡ ended (as_step p x)
answers_ended Running x e = refl
answers_ended Stopped x e = refl
answers_ended Failed x e = absurd (true≢false (sym e))

pub fails_ended : {S : Type 0} (p : Pass) (x : S) → answered p ≡ false → refused 13 0 0 ≡ ended (as_step p x)
fails_ended Running x e = absurd (true≢false e)
fails_ended Stopped x e = absurd (true≢false e)
fails_ended Failed x e = refl

-- ---- the loop

-- i passes are made of at most `count`, and the iteration goes on
pub record Passing {S : Type 0} (g : ℕ → S → Step S) (count : ℕ) (read : List Float → S) (ss : List ℕ) (w₀ w : List Float) (i : ℕ) : Type 0 where
  pub within : i ≤ count
  pub state : after g (read w₀) i ≡ running (read w)
  pub only : Only (member ss) w₀ w

pub passing_start : {S : Type 0} {g : ℕ → S → Step S} {count : ℕ} {read : List Float → S} {ss : List ℕ} {w₀ : List Float} → Passing g count read ss w₀ w₀ 0
unfolding after
passing_start {ss = ss} {w₀ = w₀} = record { within = omega arith; state = refl; only = only_refl (member ss) w₀ }

module _ {S : Type 0} {g : ℕ → S → Step S} {count : ℕ} {read : List Float → S} {ss : List ℕ} {w₀ w : List Float} {i : ℕ} (H : Passing g count read ss w₀ w i) where
  module _ {w' : List Float} {p : Pass} (h : i < count) (P : OnePass (g i) read ss p w w') where
    told : (q : Pass) → p ≡ q → g i (read w) ≡ as_step q (read w')
    told q e = sym P.step ∙ ap (λ (z : Pass). as_step z (read w')) e

    all : Only (member ss) w₀ w'
    all = only_trans H.only P.only

    pub passing_more : p ≡ Running → Passing g count read ss w₀ w' (i + 1)
    passing_more e = record { within = omega arith; state = goes_on g (read w₀) (read w) i H.state (read w') (told Running e); only = all }

    pub passing_stops : p ≡ Stopped → Passes g count read ss Stopped w₀ w'
    passing_stops e = record { step = sym (stops g (read w₀) (read w) i H.state (read w') count h (told Stopped e)); only = all }

    -- the pass that stops counts
    pub passing_counted : p ≡ Stopped → iterated (i + 1) true ≡ passes_report (after g (read w₀)) count
    passing_counted e = counted_stops g (read w₀) i (read w) H.state count (read w') h (told Stopped e)

    passing_fails : p ≡ Failed → Passes g count read ss Failed w₀ w'
    passing_fails e = record { step = sym (fails g (read w₀) (read w) i H.state count h (told Failed e)); only = all }

  pub passing_out : count ≤ i → Passes g count read ss Running w₀ w
  passing_out l = record { step = sym (runs_out g (read w₀) (read w) i H.state count H.within l); only = H.only }

  pub passing_counted_out : count ≤ i → iterated i false ≡ passes_report (after g (read w₀)) count
  passing_counted_out l = counted_out g (read w₀) i (read w) H.state count H.within l

-- ---- the loop over passes that report

-- a pass that failed says nothing
silent : {A : Type 0} {p : Pass} → p ≡ Failed → answered p ≡ true → A
silent e a = absurd (true≢false (sym a ∙ ap answered e))

pub failed_reports : {b : ℕ} {v ρ : Report} → ρ ≡ nothing → Reports b (record { pass = Failed; report = ρ }) v
failed_reports e = record { few = omega (arith, same_steps e); report = silent refl }

-- i passes are made, the iteration goes on, and ρ is what they report; their steps are not in it yet
pub record Reporting {S : Type 0} (g : ℕ → S → Step S) (h : S → Report) (count : ℕ) (read : List Float → S) (ss : List ℕ) (w₀ w : List Float) (ρ : Report) (i : ℕ) : Type 0 where
  pub passing : Passing g count read ss w₀ w i
  pub few : ρ.steps ≤ 0
  pub report : ρ ≡ gives h g (read w₀) i

pub reporting_start : {S : Type 0} {g : ℕ → S → Step S} {h : S → Report} {count : ℕ} {read : List Float → S} {ss : List ℕ} {w₀ : List Float} {ρ : Report} → ρ ≡ nothing → Reporting g h count read ss w₀ w₀ ρ 0
reporting_start {g = g} {h = h} {read = read} {w₀ = w₀} {ρ = ρ} e = record {
  passing = passing_start;
  few = omega (arith, same_steps e);
  report = e ∙ reporting_none h g (read w₀);
}

module _ {S : Type 0} {g : ℕ → S → Step S} {h : S → Report} {count : ℕ} {read : List Float → S} {ss : List ℕ} {w₀ w : List Float} {ρ : Report} {i : ℕ} (H : Reporting g h count read ss w₀ w ρ i) where
  module _ {w' : List Float} {r : Passed} {ρ' : Report} (l : i < count) (P : ReportedPass (g i) h read ss r w w') (B : ρ' ≡ beside ρ r.report) where
    -- none of the passes so far brings steps
    few_so_far : ρ'.steps ≤ 0
    few_so_far = omega (arith, same_steps B, H.few, P.reports.few)

    pub reporting_turn : r.pass ≡ Running → Reporting g h count read ss w₀ w' ρ' (i + 1)
    reporting_turn e = record {
      passing = passing_more H.passing l P.passed e;
      few = few_so_far;
      report = reporting_more h g (read w₀) i (read w) H.passing.state ρ r.report ρ' H.report (P.reports.report (ap answered e)) B;
    }

    pub reporting_stopped : {v ρ'' : Report} → v ≡ iterated (i + 1) true → ρ'' ≡ beside ρ' v → r.pass ≡ Stopped → ReportedPasses g h count read ss (record { pass = Stopped; report = ρ'' }) w₀ w'
    reporting_stopped {v = v} {ρ'' = ρ''} I B' e =
        let last : g i (read w) ≡ stopped (read w') = sym P.passed.step ∙ ap (λ (z : Pass). as_step z (read w')) e in
        let all = reporting_stops h g (read w₀) i (read w) H.passing.state ρ r.report ρ' H.report (P.reports.report (ap answered e)) B count (read w') l last in
        record {
          passed = passing_stops H.passing l P.passed e;
          reports = record {
            few = omega (arith, same_steps B', few_so_far, same_steps I);
            report = λ _. iteration_reports h g (read w₀) count ρ' v ρ'' all (I ∙ passing_counted H.passing l P.passed e) B';
          };
        }

    pub reporting_failed : r.pass ≡ Failed → ReportedPasses g h count read ss (record { pass = Failed; report = ρ' }) w₀ w'
    reporting_failed e = record { passed = passing_fails H.passing l P.passed e; reports = record { few = omega (arith, few_so_far); report = silent refl } }

  pub reporting_end : {v ρ'' : Report} → v ≡ iterated i false → ρ'' ≡ beside ρ v → count ≤ i → ReportedPasses g h count read ss (record { pass = Running; report = ρ'' }) w₀ w
  reporting_end {v = v} {ρ'' = ρ''} I B' l =
      let all = reporting_out h g (read w₀) i count ρ H.report H.passing.within l in
      record {
        passed = passing_out H.passing l;
        reports = record {
          few = omega (arith, same_steps B', H.few, H.passing.within, same_steps I);
          report = λ _. iteration_reports h g (read w₀) count ρ v ρ'' all (I ∙ passing_counted_out H.passing l) B';
        };
      }

-- the sums of steps fit a u64
module _ {S : Type 0} {g : ℕ → S → Step S} {h : S → Report} {read : List Float → S} {ss : List ℕ} {w₀ w : List Float} {ρ : Report} {i : ℕ} (H : Reporting g h pass_limit read ss w₀ w ρ i) where
  pub turn_fits : {p : Passed} {t : Report} → Reports 0 p t → ρ.steps + p.report.steps < 18446744073709551616
  turn_fits R = omega (arith, H.few, R.few)

-- ---- a system: the matrix in slot 2, the right-hand matrix in slot x

pub quotient_slot : (f : Format) (n x : ℕ) (w w' : List Float) (o : LuOutcome) → Room n w → x < 32 → eqb 2 x ≡ false → o ≡ lu_outcome f n (part w 512 (n * n)) → w' ≡ divided f n n 512 (256 * x) w o → SlotQuotient f n x o w w'
unfolding division slot
quotient_slot f n x w w' o r small e eo ew = record {
  result = go o (ap (λ (v : List Float). slot n v x) ew ∙ divided_slot f n 2 x w r small o e) ∙ ap (λ (z : LuOutcome). where_factored z Q) eo;
  only = rw ew (divided_only f n 2 x w r small o);
}
  where
    Q : List Float
    Q = quotient f n (slot n w 2) (slot n w x)

    go : (o : LuOutcome) → slot n w' x ≡ stand_in o Q (slot n w x) → where_factored o (slot n w' x) ≡ where_factored o Q
    go (Ok _) q = ap some q
    go (Err bad) q = refl
