-- What the passes of an iteration gather, for a loop: more while it runs, and nothing once it has stopped or run out. Assumes nothing.
use Prim.Native.Nat.{ℕ, zero, suc, ◌+◌, ◌-◌, ◌≤◌, ◌<◌}
use native.Mathlib.Omega.{arith}
use native.Mathlib.Numerals.{unary_clauses}
use mathlib.Core.Path.{◌≡◌, refl, sym, ap, ◌∙◌, subst}
use mathlib.Core.Bool.{true, false}
use mathlib.Core.List.{List}
use lib.Ieee.{Float}
use Rattle.arithmetic_questions.specs.Result.{Result, refused, done, outcome, exit}
use Rattle.arithmetic_questions.specs.Reports.{nothing, iterated, beside}
use Rattle.arithmetic_questions.specs.declared.answer.Report.{Report}
use Rattle.arithmetic_questions.proofs.ReportLaws.{beside_nothing}
use Rattle.functions_definitions.specs.Iterate.{Step, running, stopped, failed, advance, after, during, gathered, passes, by_test}
use Rattle.functions_definitions.specs.Reports.{followed, passes_report, iteration_report}
use Rattle.functions_definitions.proofs.HalvingLaws.{IsDone}
use Rattle.functions_definitions.proofs.IterateLaws.{stops, runs_out}

-- for any way to join with a value that adds nothing
module _ {S R : Type 0} (op : R → R → R) (e : R) (none : (r : R) → op r e ≡ r) (h : S → R) (g : ℕ → S → Step S) (x : S) where
  -- one pass from the state y
  gathers : (i : ℕ) (y : S) → after g x i ≡ running y → gathered op e h (after g x) (i + 1) ≡ op (gathered op e h (after g x) i) (h y)
  unfolding gathered
  gathers i y r =
      let one_more : i + 1 ≡ suc i = omega arith in
      ap (gathered op e h (after g x)) one_more ∙ ap (λ (s : Step S). op (gathered op e h (after g x) i) (during e h s)) r

  -- no pass is made once it has stopped
  gathers_no_more : (i d : ℕ) → ((j : ℕ) → i ≤ j → during e h (after g x j) ≡ e) → gathered op e h (after g x) (i + d) ≡ gathered op e h (after g x) i
  unfolding gathered
  gathers_no_more i zero r = simp unary_clauses refl
  gathers_no_more i (suc d) r =
      let later : i ≤ i + d = omega arith in
      simp unary_clauses (ap (op (gathered op e h (after g x) (i + d))) (r (i + d) later) ∙ none (gathered op e h (after g x) (i + d)) ∙ gathers_no_more i d r)

  -- the pass that stops is the last that gathers
  gathers_last : (i k : ℕ) (y z : S) → after g x i ≡ running y → i < k → g i y ≡ stopped z → gathered op e h (after g x) k ≡ op (gathered op e h (after g x) i) (h y)
  gathers_last i k y z r l p =
      let d = k - (i + 1) in
      let whole : i + 1 + d ≡ k = omega (arith, l) in
      sym (ap (gathered op e h (after g x)) whole)
      ∙ gathers_no_more (i + 1) d (λ j m. ap (during e h) (stops g x y i r z j (omega (arith, m)) p))
      ∙ gathers i y r

-- ---- how many passes are made, and whether the iteration's own test ended it

-- false of an iteration that is over
abbrev IsRunning : {S : Type 0} → Step S → Type 0
IsRunning (running y) = Unit {0}
IsRunning (stopped y) = ⊥
IsRunning failed = ⊥

module _ {S : Type 0} (g : ℕ → S → Step S) (x : S) where
  -- s is the state before pass i, which leaves it running
  one_made : (i : ℕ) (y : S) (s : Step S) → after g x i ≡ s → advance (g i) s ≡ running y → ((z : S) → after g x i ≡ running z → passes (after g x) i ≡ i) → passes (after g x) (suc i) ≡ suc i
  unfolding passes gathered advance
  one_made i y (running z) p q made =
      let one_more : i + 1 ≡ suc i = omega arith in
      ap (λ (s : Step S). passes (after g x) i + during 0 (λ _. 1) s) p ∙ ap (λ (k : ℕ). k + 1) (made z p) ∙ one_more
  one_made i y (stopped z) p q made = absurd (subst IsRunning (sym q) tt)
  one_made i y failed p q made = absurd (subst IsRunning (sym q) tt)

  -- while it runs, all passes are made
  all_made : (i : ℕ) (y : S) → after g x i ≡ running y → passes (after g x) i ≡ i
  unfolding passes gathered after
  all_made zero y e = refl
  all_made (suc i) y e = one_made i y (after g x i) refl e (all_made i)

  -- still running after i passes, with the state y
  module _ (i : ℕ) (y : S) (e : after g x i ≡ running y) where
    pub counted_stops : (k : ℕ) (z : S) → i < k → g i y ≡ stopped z → iterated (i + 1) true ≡ passes_report (after g x) k
    unfolding passes
    counted_stops k z l p =
        let count = gathers_last ◌+◌ 0 (λ (j : ℕ). omega arith) (λ _. 1) g x i k y z e l p ∙ ap (λ (j : ℕ). j + 1) (all_made i y e) in
        λ j. iterated (sym count j) (by_test (sym (stops g x y i e z k l p) j))

    pub counted_out : (k : ℕ) → i ≤ k → k ≤ i → iterated i false ≡ passes_report (after g x) k
    counted_out k h l =
        let same : i ≡ k = omega arith in
        let count = sym (all_made i y e) ∙ ap (passes (after g x)) same in
        λ j. iterated (count j) (by_test (sym (runs_out g x y i e k h l) j))

-- ---- reports

module _ {S : Type 0} (h : S → Report) (g : ℕ → S → Step S) (x : S) where
  -- what the first k passes report
  abbrev pub gives : ℕ → Report
  gives k = gathered beside nothing h (after g x) k

  pub reporting_none : nothing ≡ gives 0
  unfolding gathered
  reporting_none = refl

  -- still running after i passes, with the state y: the next pass reports v
  module _ (i : ℕ) (y : S) (s : after g x i ≡ running y) (ρ v ρ' : Report) (J : ρ ≡ gives i) (G : v ≡ h y) (B : ρ' ≡ beside ρ v) where
    joined : ρ' ≡ beside (gives i) (h y)
    joined = B ∙ (λ j. beside (J j) (G j))

    pub reporting_more : ρ' ≡ gives (i + 1)
    reporting_more = joined ∙ sym (gathers beside nothing beside_nothing h g x i y s)

    pub reporting_stops : (k : ℕ) (z : S) → i < k → g i y ≡ stopped z → ρ' ≡ gives k
    reporting_stops k z l e = joined ∙ sym (gathers_last beside nothing beside_nothing h g x i k y z s l e)

  pub reporting_out : (i k : ℕ) (ρ : Report) → ρ ≡ gives i → i ≤ k → k ≤ i → ρ ≡ gives k
  reporting_out i k ρ J h l = let same : i ≡ k = omega arith in J ∙ ap gives same

  -- ρ is what all passes report, and v says how many there were and how they ended
  pub iteration_reports : (k : ℕ) (ρ v ρ' : Report) → ρ ≡ gives k → v ≡ passes_report (after g x) k → ρ' ≡ beside ρ v → ρ' ≡ iteration_report h (after g x) k
  unfolding iteration_report
  iteration_reports k ρ v ρ' J C B = B ∙ (λ i. beside (J i) (C i))

-- ---- two parts, the second given what the first gives

-- y is what the first gives
pub followed_as : (x : Result (List Float)) (r : Report) (g : List Float → Report) (s : ℕ) (y : List Float) → done s tt ≡ outcome x → y ≡ exit (λ v. v) x y → followed x r g ≡ beside r (g y)
unfolding followed outcome exit
followed_as (refused k i j) r g s y d e = absurd (subst IsDone d tt)
followed_as (done t v) r g s y d e = ap (λ (z : List Float). beside r (g z)) (sym e)
