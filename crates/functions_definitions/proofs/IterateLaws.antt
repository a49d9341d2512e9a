-- Laws of an iteration that stops early or fails, for every type of state. Assumes nothing.
use Prim.Native.Nat.{ℕ, zero, suc, ◌+◌, ◌-◌, ◌≤◌, ◌<◌}
use mathlib.Core.Path.{◌≡◌, sym, ap, ◌∙◌}
use native.Mathlib.Omega.{arith}
use native.Mathlib.Numerals.{unary_clauses}
use Rattle.functions_definitions.specs.Iterate.{Step, running, stopped, failed, advance, after}

-- once it has stopped or failed it stays as it is
stopped_stays : {S : Type 0} (g : ℕ → S → Step S) (x y : S) (i d : ℕ) → after g x i ≡ stopped y → after g x (i + d) ≡ stopped y
unfolding after advance
stopped_stays g x y i zero e = simp unary_clauses e
stopped_stays g x y i (suc d) e = simp unary_clauses (ap (advance (g (i + d))) (stopped_stays g x y i d e))

failed_stays : {S : Type 0} (g : ℕ → S → Step S) (x : S) (i d : ℕ) → after g x i ≡ failed → after g x (i + d) ≡ failed
unfolding after advance
failed_stays g x i zero e = simp unary_clauses e
failed_stays g x i (suc d) e = simp unary_clauses (ap (advance (g (i + d))) (failed_stays g x i d e))

-- Still running after i passes, with the state y: the next pass keeps it running, stops it or fails; or it runs out of passes.
module _ {S : Type 0} (g : ℕ → S → Step S) (x y : S) (i : ℕ) (e : after g x i ≡ running y) where
  next : after g x (suc i) ≡ g i y
  unfolding after advance
  next = ap (advance (g i)) e

  rest : (k : ℕ) → i < k → suc i + (k - suc i) ≡ k
  rest k h = omega (arith, h)

  pub goes_on : (z : S) → g i y ≡ running z → after g x (i + 1) ≡ running z
  goes_on z p = let one_more : i + 1 ≡ suc i = omega arith in ap (after g x) one_more ∙ next ∙ p

  pub stops : (z : S) (k : ℕ) → i < k → g i y ≡ stopped z → after g x k ≡ stopped z
  stops z k h p = sym (ap (after g x) (rest k h)) ∙ stopped_stays g x z (suc i) (k - suc i) (next ∙ p)

  pub fails : (k : ℕ) → i < k → g i y ≡ failed → after g x k ≡ failed
  fails k h p = sym (ap (after g x) (rest k h)) ∙ failed_stays g x (suc i) (k - suc i) (next ∙ p)

  pub runs_out : (k : ℕ) → i ≤ k → k ≤ i → after g x k ≡ running y
  runs_out k h l = let same : k ≡ i = omega arith in ap (after g x) same ∙ e
