-- Laws of the logarithm in a workspace: the roots, the series, and both. Assumes nothing.
use Rattle.std.specs.Prelude.{Ok, Some, None}
use Prim.Native.Nat.{ℕ, suc, ◌+◌, ◌*◌, ◌≤◌, ◌<◌}
use native.Mathlib.Omega.{arith}
use native.Mathlib.Numerals.{add-one}
use mathlib.Core.Path.{◌≡◌, refl, sym, ap, ◌∙◌, subst}
use mathlib.Core.Bool.{Bool, true, false, cond, not}
use mathlib.Core.List.{List, [], ◌∷◌}
use lib.Ieee.{Float, Format, le, mul}
use Rattle.arithmetic_floats.specs.Float.{epsilon, power_of_two}
use Rattle.arithmetic_matrices.specs.Product.{mul_m, times_m, add_m, zero_m, minus_identity_m}
use Rattle.arithmetic_matrices.specs.Norm.{frobenius}
use Rattle.arithmetic_matrices.specs.Workspace.{Room, slot, store, member, Only}
use Rattle.arithmetic_questions.specs.Result.{Result, done, refused, ◌>>=◌, outcome, exit}
use Rattle.arithmetic_questions.specs.Answers.{Outcome, numbered, reported}
use Rattle.arithmetic_questions.specs.Kernels.{Replaced}
use Rattle.arithmetic_questions.specs.Reports.{nothing, iterated, beside}
use Rattle.arithmetic_questions.specs.declared.answer.Report.{Report}
use Rattle.arithmetic_questions.specs.declared.answer.Refusal.TheVariants.{NotConverged}
use Rattle.arithmetic_questions.proofs.ReportLaws.{same_steps, beside_nothing}
use Rattle.arithmetic_matrices.proofs.MatrixLaws.{square_le}
use Rattle.arithmetic_matrices.proofs.ProductLaws.{length-times_m}
use Rattle.arithmetic_matrices.proofs.Slots.{only_refl, only_trans, only_more, slot_only, length-slot}
use Rattle.arithmetic_matrices.proofs.States.{start, step_mult, step_copy, step_copy_in, step_call, step_times, step_add, step_zero, step_minus_identity, held_at, member_among}
use Rattle.functions_definitions.specs.Iterate.{Step, running, stopped, after, verdict, gathered, ended}
use Rattle.functions_definitions.specs.Roots.{newton_root}
use Rattle.functions_definitions.specs.Logarithm.{is_far, root_limit, Rooted, rooted, rooting_step, rooting, further_terms, Series, series_step, series_coefficient, series, near_logarithm, logarithm}
use Rattle.functions_definitions.specs.Reports.{followed, passes_report, newton_report, rooting_report, roots_report, series_report, log_report}
use Rattle.functions_roots.specs.Kernels.{as_step, tested, answered, OnePass, Passes}
use Rattle.functions_logarithms.specs.Kernels.{ReportedNewton, rooted_as, as_rooting, RootingPass, RootsTaken, series_in, TermsAdded, SeriesSummed, LogarithmNear}
use Rattle.functions_roots.specs.declared.pass.Pass.{Pass}
use Rattle.functions_roots.specs.declared.pass.Passed.{Passed}
use Rattle.functions_roots.specs.declared.pass.Pass.TheVariants.{Running, Stopped, Failed}
use Rattle.functions_logarithms.specs.declared.logarithm.TakenRoots.{TakenRoots}
use Rattle.functions_definitions.proofs.IterateLaws.{goes_on, stops, fails, runs_out}
use Rattle.functions_definitions.proofs.GatheredLaws.{reporting_more, reporting_stops, reporting_out}
use Rattle.functions_roots.proofs.PassLaws.{step_tested, answers_ended, fails_ended, failed_reports}

-- the slots that the logarithm changes, and those of the series
abbrev pub used : List ℕ
used = 0 ∷ 1 ∷ 2 ∷ 3 ∷ []

abbrev pub summing : List ℕ
summing = 1 ∷ 2 ∷ 3 ∷ []

-- ---- a pass of the rooting

-- false of a pass that does not stop
abbrev IsStopped : Pass → Type 0
IsStopped Running = ⊥
IsStopped Stopped = Unit {0}
IsStopped Failed = ⊥

module _ (f : Format) (n : ℕ) (w₀ : List Float) (r : Room n w₀) where
  -- the report of a pass goes by the test
  reported_as : (b : Bool) → is_far f n (slot n w₀ 0) ≡ b → cond b (newton_report f n (slot n w₀ 0)) nothing ≡ rooting_report f n (slot n w₀ 0)
  unfolding rooting_report
  reported_as b h = ap (λ (z : Bool). cond z (newton_report f n (slot n w₀ 0)) nothing) (sym h)

  pub near_stopped : (ρ : Report) → is_far f n (slot n w₀ 0) ≡ false → ρ ≡ nothing → RootingPass f n (record { pass = Stopped; report = ρ }) w₀ w₀
  unfolding rooting_step
  near_stopped ρ h e = record {
    step = λ k. ap (λ (b : Bool). cond b (rooted k (newton_root f n (slot n w₀ 0))) (stopped (rooted_as (slot n w₀ 0) k))) (sym h);
    reports = record { few = omega (arith, same_steps e); report = λ _. e ∙ reported_as false h };
    near = λ _. h;
    only = only_refl (member used) w₀;
  }

  module _ (w1 : List Float) (p : Passed) (far : is_far f n (slot n w₀ 0) ≡ true) (N : ReportedNewton f n p w₀ w1) where
    -- the step is what the root gives
    rooted_as_lem : (k : ℕ) → rooted k (ended (as_step p.pass (slot n w1 1))) ≡ rooting_step f n (rooted_as (slot n w₀ 0) k)
    unfolding rooting_step newton_root
    rooted_as_lem k =
        ap (λ (z : Step (List Float)). rooted k (ended z)) N.root.step
        ∙ ap (λ (b : Bool). cond b (rooted k (newton_root f n (slot n w₀ 0))) (stopped (rooted_as (slot n w₀ 0) k))) (sym far)

    wide : Only (member used) w₀ w1
    wide = only_more (member_among (member used) summing refl) N.root.only

    pub far_failed : (ρ : Report) → answered p.pass ≡ false → ρ ≡ nothing → RootingPass f n (record { pass = Failed; report = ρ }) w₀ w1
    far_failed ρ e en = record {
      step = λ k. ap (rooted k) (fails_ended p.pass (slot n w1 1) e) ∙ rooted_as_lem k;
      reports = failed_reports en;
      near = λ q. absurd (subst IsStopped (sym q) tt);
      only = wide;
    }

    pub far_rooted : (w2 : List Float) → answered p.pass ≡ true → w2 ≡ store w1 0 (slot n w1 1) → RootingPass f n (record { pass = Running; report = p.report }) w₀ w2
    far_rooted w2 e e2 =
        let s1 = step_call summing (start (member used) n r) N.root.only (member_among (member used) summing refl) in
        let s2 = step_copy_in n r.order 0 (slot n w1 1) s1 e2 (length-slot n w1 1) refl refl in
        record {
          step = λ k. ap (λ (x : List Float). running (rooted_as x (suc k))) (held_at 0 n s2 refl) ∙ ap (rooted k) (answers_ended p.pass (slot n w1 1) e) ∙ rooted_as_lem k;
          reports = record { few = N.reports.few; report = λ _. N.reports.report e ∙ reported_as true far };
          near = λ q. absurd (subst IsStopped (sym q) tt);
          only = s2.only;
        }

-- ---- all roots

-- what the pass from this state reports
abbrev report_of : Format → ℕ → Rooted → Report
report_of f n r = rooting_report f n r.work

-- what all passes from a report
abbrev passes_of : Format → ℕ → List Float → Report
passes_of f n a = gathered beside nothing (report_of f n) (rooting f n a) root_limit

-- they leave x
left_as : (f : Format) (n k : ℕ) (a x : List Float) → done 0 (rooted_as x k) ≡ ended (rooting f n a root_limit) → beside (passes_of f n a) (iterated 0 (not (is_far f n x))) ≡ roots_report f n a
unfolding roots_report followed exit
left_as f n k a x q = ap (λ (z : Result Rooted). followed z (passes_of f n a) (λ r. iterated 0 (not (is_far f n r.work)))) q

-- k roots are taken, the rooting goes on, and ρ is what they report
pub record Rooting (f : Format) (n : ℕ) (w₀ w : List Float) (ρ : Report) (k : ℕ) : Type 0 where
  pub within : k ≤ root_limit
  pub state : rooting f n (slot n w₀ 0) k ≡ running (rooted_as (slot n w 0) k)
  pub few : ρ.steps ≤ 100 * k
  pub report : ρ ≡ gathered beside nothing (report_of f n) (rooting f n (slot n w₀ 0)) k
  pub only : Only (member used) w₀ w

pub rooting_start : {f : Format} {n : ℕ} {w₀ : List Float} {ρ : Report} → ρ ≡ nothing → Rooting f n w₀ w₀ ρ 0
unfolding rooting after gathered
rooting_start {w₀ = w₀} e = record { within = omega arith; state = refl; few = omega (arith, same_steps e); report = e; only = only_refl (member used) w₀ }

module _ {f : Format} {n : ℕ} {w₀ w : List Float} {ρ : Report} {k : ℕ} (H : Rooting f n w₀ w ρ k) where
  module _ {w' : List Float} {p : Passed} {ρ' : Report} (h : k < root_limit) (P : RootingPass f n p w w') (B : ρ' ≡ beside ρ p.report) where
    told : (q : Pass) → p.pass ≡ q → rooting_step f n (rooted_as (slot n w 0) k) ≡ as_rooting q (slot n w' 0) k
    told q e = sym (P.step k) ∙ ap (λ (z : Pass). as_rooting z (slot n w' 0) k) e

    changed : Only (member used) w₀ w'
    changed = only_trans H.only P.only

    pub rooting_more : p.pass ≡ Running → Rooting f n w₀ w' ρ' (k + 1)
    unfolding rooting
    rooting_more e = record {
      within = omega arith;
      state =
          goes_on (λ _. rooting_step f n) (rooted_as (slot n w₀ 0) 0) (rooted_as (slot n w 0) k) k H.state (rooted_as (slot n w' 0) (suc k)) (told Running e)
          ∙ ap (λ (m : ℕ). running (rooted_as (slot n w' 0) m)) (sym (add-one k));
      few = omega (arith, same_steps B, H.few, P.reports.few);
      report = reporting_more (report_of f n) (λ _. rooting_step f n) (rooted_as (slot n w₀ 0) 0) k (rooted_as (slot n w 0) k) H.state ρ p.report ρ' H.report (P.reports.report (ap answered e)) B;
      only = changed;
    }

    pub rooting_stops : p.pass ≡ Stopped → RootsTaken f n (Some (record { count = k; report = ρ' })) w₀ w'
    unfolding rooting
    rooting_stops e =
        let a = slot n w₀ 0 in
        let q = sym (ap ended (stops (λ _. rooting_step f n) (rooted_as a 0) (rooted_as (slot n w 0) k) k H.state (rooted_as (slot n w' 0) k) root_limit h (told Stopped e))) in
        let all = reporting_stops (report_of f n) (λ _. rooting_step f n) (rooted_as a 0) k (rooted_as (slot n w 0) k) H.state ρ p.report ρ' H.report (P.reports.report (ap answered e)) B root_limit (rooted_as (slot n w' 0) k) h (told Stopped e) in
        record {
          taken = q;
          few = omega arith;
          reports = all ∙ sym (beside_nothing (passes_of f n a)) ∙ (λ i. beside (passes_of f n a) (iterated 0 (not (sym (P.near e) i)))) ∙ left_as f n k a (slot n w' 0) q;
          only = changed;
        }

    pub rooting_fails : p.pass ≡ Failed → RootsTaken f n None w₀ w'
    unfolding rooting
    rooting_fails e = record {
      taken = sym (ap ended (fails (λ _. rooting_step f n) (rooted_as (slot n w₀ 0) 0) (rooted_as (slot n w 0) k) k H.state root_limit h (told Failed e)));
      few = tt;
      reports = tt;
      only = changed;
    }

  -- the norm is asked once more
  pub rooting_out : {d : Bool} {v ρ'' : Report} → d ≡ is_far f n (slot n w 0) → v ≡ iterated 0 (not d) → ρ'' ≡ beside ρ v → root_limit ≤ k → RootsTaken f n (Some (record { count = root_limit; report = ρ'' })) w₀ w
  unfolding rooting
  rooting_out {ρ'' = ρ''} far I B l =
      let a = slot n w₀ 0 in
      let every : k ≡ root_limit = omega (arith, H.within, l) in
      let q = sym (ap ended (runs_out (λ _. rooting_step f n) (rooted_as a 0) (rooted_as (slot n w 0) k) k H.state root_limit H.within l)) in
      let all = reporting_out (report_of f n) (λ _. rooting_step f n) (rooted_as a 0) k root_limit ρ H.report H.within l in
      subst (λ (m : ℕ). RootsTaken f n (Some (record { count = m; report = ρ'' })) w₀ w) every
      (record {
        taken = q;
        few = H.within;
        reports = B ∙ (λ i. beside (all i) (I i)) ∙ (λ i. beside (passes_of f n a) (iterated 0 (not (far i)))) ∙ left_as f n k a (slot n w 0) q;
        only = H.only;
      })

  -- the last sum of steps fits a u64
  pub out_fits : {b : Bool} {v : Report} → v ≡ iterated 0 b → ρ.steps + v.steps < 18446744073709551616
  out_fits I = omega (arith, H.within, H.few, same_steps I)

-- ---- the series

module _ (f : Format) (n : ℕ) (w₀ : List Float) (r : Room n w₀) where
  pub term_added : (k : ℕ) (w1 w2 w3 w4 : List Float) (d : Float) (b : Bool) → w1 ≡ store w₀ 3 (mul_m f n (slot n w₀ 1) (slot n w₀ 0)) → w2 ≡ store w1 1 (slot n w1 3) → d ≡ series_coefficient f (k + 2)
      → w3 ≡ store w2 3 (times_m f n d (slot n w2 1)) → w4 ≡ store w3 2 (add_m f n (slot n w3 2) (slot n w3 3)) → b ≡ le (frobenius f n (slot n w4 3)) (mul f (epsilon f) (frobenius f n (slot n w4 2)))
      → OnePass (series_step f n (slot n w₀ 0) k) (series_in n) summing (tested b) w₀ w4
  unfolding series_step
  term_added k w1 w2 w3 w4 d b e1 e2 ed e3 e4 eb =
      let p = mul_m f n (slot n w₀ 1) (slot n w₀ 0) in
      let s1 = step_mult n r.order f 1 0 3 (start (member summing) n r) e1 refl refl refl refl in
      let s2 = step_copy n r.order 3 1 s1 e2 refl refl refl in
      let s3 = step_times n r.order f d 1 3 s2 e3 refl refl refl in
      let s4 = step_add n r.order f 2 3 s3 e4 refl refl refl refl in
      let made : Float → Step Series = λ c. verdict (le (frobenius f n (times_m f n c p)) (mul f (epsilon f) (frobenius f n (add_m f n (slot n w₀ 2) (times_m f n c p))))) (record { power = p; sum = add_m f n (slot n w₀ 2) (times_m f n c p) }) in
      record {
        step =
            step_tested b (series_in n w4)
            ∙ (λ i. verdict (eb i) (record { power = held_at 1 n s4 refl i; sum = held_at 2 n s4 refl i }))
            ∙ (λ i. verdict (le (frobenius f n (held_at 3 n s4 refl i)) (mul f (epsilon f) (frobenius f n (held_at 2 n s4 refl i)))) (record { power = p; sum = add_m f n (slot n w₀ 2) (times_m f n d p) }))
            ∙ ap made ed;
        only = s4.only;
      }

  -- a pass on the way is a step for the matrix with which the passes began
  pub term_same : (k : ℕ) (w w' : List Float) (p : Pass) → Only (member summing) w₀ w → OnePass (series_step f n (slot n w 0) k) (series_in n) summing p w w' → OnePass (series_step f n (slot n w₀ 0) k) (series_in n) summing p w w'
  term_same k w w' p o P = rw (slot_only n (member summing) w₀ w 0 1 o (omega (arith, square_le n r.order)) refl) at P

  -- what the passes answered, as the terms that they added
  pub terms_added : (q : Pass) (w : List Float) (ρ : Report) → ended (as_step q (series_in n w)) ≡ done 0 (series_in n w) → Passes (series_step f n (slot n w₀ 0)) further_terms (series_in n) summing q w₀ w
      → ρ ≡ passes_report (after (series_step f n (slot n w₀ 0)) (series_in n w₀)) further_terms → TermsAdded f n ρ w₀ w
  terms_added q w ρ e P C = record { terms = sym e ∙ ap ended P.step; report = C; only = P.only }

  pub series_summed : (w1 w2 w3 w4 : List Float) (ρ : Report) → w1 ≡ store w₀ 1 (slot n w₀ 0) → w2 ≡ store w1 2 (zero_m n) → w3 ≡ store w2 2 (add_m f n (slot n w2 2) (slot n w2 1)) → TermsAdded f n ρ w3 w4 → SeriesSummed f n ρ w₀ w4
  unfolding series series_report
  series_summed w1 w2 w3 w4 ρ e1 e2 e3 T =
      let s1 = step_copy n r.order 0 1 (start (member summing) n r) e1 refl refl refl in
      let s2 = step_zero n r.order 2 s1 e2 refl refl in
      let s3 = step_add n r.order f 2 1 s2 e3 refl refl refl refl in
      record {
        terms = T.terms ∙ (λ i. ended (after (series_step f n (held_at 0 n s3 refl i)) (record { power = held_at 1 n s3 refl i; sum = held_at 2 n s3 refl i }) further_terms));
        report = T.report ∙ (λ i. passes_report (after (series_step f n (held_at 0 n s3 refl i)) (record { power = held_at 1 n s3 refl i; sum = held_at 2 n s3 refl i })) further_terms);
        only = only_trans s3.only T.only;
      }

  -- ---- the logarithm

  pub near_steps : (k : ℕ) (w1 w2 w3 w4 : List Float) (t : Float) (ρ : Report) → w1 ≡ store w₀ 0 (minus_identity_m f n (slot n w₀ 0)) → SeriesSummed f n ρ w1 w2 → t ≡ power_of_two k → w3 ≡ store w2 2 (times_m f n t (slot n w2 2))
      → w4 ≡ store w3 0 (slot n w3 2) → LogarithmNear f n k ρ w₀ w4
  unfolding ◌>>=◌
  near_steps k w1 w2 w3 w4 t ρ e1 S et e3 e4 =
      let s1 = step_minus_identity n r.order f 0 (start (member used) n r) e1 refl refl refl in
      let s2 = step_call summing s1 S.only (member_among (member used) summing refl) in
      let s3 = step_copy_in n r.order 2 (times_m f n t (slot n w2 2)) s2 e3 (length-times_m f n t (slot n w2 2)) refl refl in
      let s4 = step_copy n r.order 2 0 s3 e4 refl refl refl in
      record {
        result =
            (λ i. done 0 (held_at 0 n s4 refl i))
            ∙ (λ i. done 0 (times_m f n (et i) (slot n w2 2)))
            ∙ ap (λ (z : Result Series). z >>= λ s. done 0 (times_m f n (power_of_two k) s.sum)) (S.terms ∙ ap (λ (x : List Float). ended (series f n x further_terms)) (held_at 0 n s1 refl));
        report = S.report ∙ ap (series_report f n) (held_at 0 n s1 refl);
        only = s4.only;
      }

  -- the roots leave the matrix in slot 0
  module _ (w1 : List Float) (t : TakenRoots) (R : RootsTaken f n (Some t) w₀ w1) where
    pub logarithm_done : (w2 : List Float) (ρ : Report) → LogarithmNear f n t.count ρ w1 w2 → Replaced used n (logarithm f n (slot n w₀ 0)) (Ok 0) w₀ w2
    unfolding logarithm ◌>>=◌ outcome exit
    logarithm_done w2 ρ L =
        let x : done 0 (slot n w2 0) ≡ logarithm f n (slot n w₀ 0) =
        L.result ∙ ap (λ (z : Result Rooted). z >>= λ v. near_logarithm f n v.roots v.work) R.taken in
        record { outcome = ap outcome x; result = ap (λ (z : Result (List Float)). exit (λ v. v) z (slot n w2 0)) x; only = only_trans R.only L.only }

    -- the roots, and the series
    pub logarithm_reported : (w2 : List Float) (ρ ρ' : Report) → LogarithmNear f n t.count ρ w1 w2 → ρ' ≡ beside t.report ρ → ρ' ≡ log_report f n (slot n w₀ 0)
    unfolding log_report followed exit
    logarithm_reported w2 ρ ρ' L B =
        B ∙ (λ i. beside (R.reports i) (L.report i)) ∙ ap (λ (z : Result Rooted). followed z (roots_report f n (slot n w₀ 0)) (λ r. series_report f n (minus_identity_m f n r.work))) R.taken

  -- they are refused
  pub logarithm_refused : (w1 : List Float) (R : RootsTaken f n None w₀ w1) (o : Outcome) → reported o ≡ numbered NotConverged → Replaced used n (logarithm f n (slot n w₀ 0)) o w₀ w1
  unfolding logarithm ◌>>=◌ outcome exit
  logarithm_refused w1 R o h =
      let x : refused 13 0 0 ≡ logarithm f n (slot n w₀ 0) =
      ap (λ (z : Result Rooted). z >>= λ v. near_logarithm f n v.roots v.work) R.taken in
      record { outcome = h ∙ ap outcome x; result = ap (λ (z : Result (List Float)). exit (λ v. v) z (slot n w1 0)) x; only = R.only }
