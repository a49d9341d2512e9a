-- At most so many steps are reported: 100 of a root, 10,059 of a logarithm. So sums of a few reports' steps fit a u64. Assumes nothing.
use Prim.Native.Nat.{ℕ, zero, suc, ◌+◌, ◌*◌, ◌≤◌}
use native.Mathlib.Omega.{arith}
use native.Mathlib.Numerals.{unary_clauses}
use mathlib.Core.Bool.{Bool, true, false, cond, not}
use mathlib.Core.List.{List}
use lib.Dec.{eqb}
use lib.Ieee.{Float, Format}
use Rattle.arithmetic_matrices.specs.Product.{minus_identity_m}
use Rattle.arithmetic_questions.specs.Result.{Result, refused, done, exit}
use Rattle.arithmetic_questions.specs.Reports.{nothing, iterated, beside}
use Rattle.arithmetic_questions.specs.declared.answer.Report.{Report}
use Rattle.functions_definitions.specs.Iterate.{Step, running, stopped, failed, during, gathered, passes, ended}
use Rattle.functions_definitions.specs.Roots.{pass_limit, Pair, denman_beavers, newton}
use Rattle.functions_definitions.specs.Logarithm.{Rooted, is_far, root_limit, rooting, further_terms, series}
use Rattle.functions_definitions.specs.Derivatives.{sylvester_matrix}
use Rattle.functions_definitions.specs.Reports.{lu_report, followed, iteration_report, pair_report, root_report, root_derivative_report, newton_report, rooting_report, roots_report, series_report, log_report, exponential_report, exp_report}

-- either of two reports
either_few : (b : Bool) (r t : Report) (k : ℕ) → r.steps ≤ k → t.steps ≤ k → (cond b r t).steps ≤ k
either_few true r t k h l = h
either_few false r t k h l = l

-- ---- an iteration

module _ {S : Type 0} (states : ℕ → Step S) where
  -- each pass reports at most b steps
  module _ (h : S → Report) (b : ℕ) (few : (y : S) → (h y).steps ≤ b) where
    during_few : (s : Step S) → (during nothing h s).steps ≤ b
    during_few (running y) = few y
    during_few (stopped y) = omega arith
    during_few failed = omega arith

    gathered_few : (k : ℕ) → (gathered beside nothing h states k).steps ≤ b * k
    unfolding gathered
    gathered_few zero = omega arith
    gathered_few (suc k) = simp unary_clauses (omega (arith, gathered_few k, during_few (states k)))

  one_few : (s : Step S) → during 0 (λ _. 1) s ≤ 1
  one_few (running y) = omega arith
  one_few (stopped y) = omega arith
  one_few failed = omega arith

  passes_few : (k : ℕ) → passes states k ≤ k
  unfolding passes gathered
  passes_few zero = omega arith
  passes_few (suc k) = omega (arith, passes_few k, one_few (states k))

  -- whose passes report none of their own
  iteration_few : (h : S → Report) (k : ℕ) → ((y : S) → (h y).steps ≤ 0) → (iteration_report h states k).steps ≤ k
  unfolding iteration_report
  iteration_few h k none = omega (arith, gathered_few h 0 none k, passes_few k)

-- ---- each function

module _ (f : Format) (n : ℕ) where
  lu_few : (a : List Float) → (lu_report f n a).steps ≤ 0
  unfolding lu_report
  lu_few a = omega arith

  pub exp_few : (a : List Float) → (exp_report f n a).steps ≤ 0
  unfolding exp_report exponential_report lu_report
  exp_few a = omega arith

  pair_few : (p : Pair) → (pair_report f n p).steps ≤ 0
  unfolding pair_report lu_report
  pair_few p = omega arith

  pub root_few : (a : List Float) → (root_report f n a).steps ≤ pass_limit
  unfolding root_report
  root_few a = either_few (eqb n 1) nothing (iteration_report (pair_report f n) (denman_beavers f n a) pass_limit) pass_limit (omega arith) (iteration_few (denman_beavers f n a) (pair_report f n) pass_limit pair_few)

  pub derivative_few : (s t : List Float) → (root_derivative_report f n s t).steps ≤ 0
  unfolding root_derivative_report lu_report
  derivative_few s t = either_few (eqb n 1) nothing (lu_report f (n * n) (sylvester_matrix f n s t)) 0 (omega arith) (omega arith)

  rooting_few : (w : List Float) → (rooting_report f n w).steps ≤ pass_limit
  unfolding rooting_report newton_report
  rooting_few w = either_few (is_far f n w) (newton_report f n w) nothing pass_limit (iteration_few (newton f n w) (lu_report f n) pass_limit lu_few) (omega arith)

  pub series_few : (x : List Float) → (series_report f n x).steps ≤ further_terms
  unfolding series_report
  series_few x = passes_few (series f n x) further_terms

  -- the roots, and what reports at most k steps at the matrix that they leave
  followed_few : (x : Result Rooted) (r : Report) (g : Rooted → Report) (j k : ℕ) → r.steps ≤ j → ((v : Rooted) → (g v).steps ≤ k) → (followed x r g).steps ≤ j + k
  unfolding followed exit
  followed_few (refused c p q) r g j k h few = omega arith
  followed_few (done s v) r g j k h few = omega (arith, h, few v)

  pub roots_few : (a : List Float) → (roots_report f n a).steps ≤ 10000
  unfolding roots_report
  roots_few a =
      let roots : Rooted → Report = λ r. rooting_report f n r.work in
      followed_few (ended (rooting f n a root_limit)) (gathered beside nothing roots (rooting f n a) root_limit) (λ r. iterated 0 (not (is_far f n r.work))) 10000 0 (gathered_few (rooting f n a) roots pass_limit (λ r. rooting_few r.work) root_limit) (λ r. omega arith)

  pub log_few : (a : List Float) → (log_report f n a).steps ≤ 10059
  unfolding log_report
  log_few a = followed_few (ended (rooting f n a root_limit)) (roots_report f n a) (λ r. series_report f n (minus_identity_m f n r.work)) 10000 59 (roots_few a) (λ r. series_few (minus_identity_m f n r.work))
