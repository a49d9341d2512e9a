-- A pass of the code as a step of a definition, and what the parts of the root leave in a workspace. Only the contracts of kernels cite it. Definitions only.
use Rattle.std.specs.Prelude.{ℕ, ◌≤◌, ◌≡◌, Bool, true, false, List, [], ◌∷◌, Float}
use Rattle.std.proofs.Math.Option.{some}
use Rattle.std.specs.Float.{Format}
use Rattle.arithmetic_matrices.specs.Workspace.{slot, member, Only}
use Rattle.lu_factoring.specs.Solve.{division, inverse, where_factored}
use Rattle.functions_definitions.specs.Iterate.{Step, running, stopped, failed, after}
use Rattle.functions_definitions.specs.Roots.{pass_limit, newton_next, newton, Pair, denman_beavers_next}
use Rattle.functions_definitions.specs.Reports.{iteration_report}
use Rattle.functions_roots.specs.declared.pass.Pass.{Pass}
use Rattle.functions_roots.specs.declared.pass.Passed.{Passed}
use Rattle.functions_roots.specs.declared.pass.Pass.TheVariants.{Running, Stopped, Failed}
use Rattle.arithmetic_questions.specs.declared.answer.Report.{Report}
use Rattle.lu_factoring.specs.Lu.{LuOutcome}

-- ---- the passes of an iteration

-- what a pass makes of its iteration, with the state that it leaves: after a failure the state does not matter
abbrev pub as_step : {S : Type 0} → Pass → S → Step S
as_step Running x = running x
as_step Stopped x = stopped x
as_step Failed x = failed

-- a pass that is the last where its test holds
abbrev pub tested : Bool → Pass
tested true = Stopped
tested false = Running

-- running out of passes still answers
abbrev pub answered : Pass → Bool
answered Running = true
answered Stopped = true
answered Failed = false

-- One pass in the slots ss: the state that `read` finds in the workspace goes through the step g. r is what the pass answers.
pub record OnePass {S : Type 0} (g : S → Step S) (read : List Float → S) (ss : List ℕ) (r : Pass) (w w' : List Float) : Type 0 where
  pub step : as_step r (read w') ≡ g (read w)
  pub only : Only (member ss) w w'

-- At most `count` passes, pass i going through the step g i.
pub record Passes {S : Type 0} (g : ℕ → S → Step S) (count : ℕ) (read : List Float → S) (ss : List ℕ) (r : Pass) (w w' : List Float) : Type 0 where
  pub step : as_step r (read w') ≡ after g (read w) count
  pub only : Only (member ss) w w'

-- r reports v where it has a result, and at most b steps in any case
pub record Reports (b : ℕ) (r : Passed) (v : Report) : Type 0 where
  pub few : r.report.steps ≤ b
  pub report : answered r.pass ≡ true → r.report ≡ v

-- one pass that reports h of the state it starts from; the loop counts its step
pub record ReportedPass {S : Type 0} (g : S → Step S) (h : S → Report) (read : List Float → S) (ss : List ℕ) (r : Passed) (w w' : List Float) : Type 0 where
  pub passed : OnePass g read ss r.pass w w'
  pub reports : Reports 0 r (h (read w))

-- at most `count` such passes, which report what each of them does, how many there were, and whether the test of one ended them
pub record ReportedPasses {S : Type 0} (g : ℕ → S → Step S) (h : S → Report) (count : ℕ) (read : List Float → S) (ss : List ℕ) (r : Passed) (w w' : List Float) : Type 0 where
  pub passed : Passes g count read ss r.pass w w'
  pub reports : Reports count r (iteration_report h (after g (read w)) count)

-- ---- a division in an iteration: the matrix of order n in slot 2 is factored in place

-- Where LU accepts the matrix in slot 2, slot x becomes the quotient of its own matrix by it. o is the outcome.
pub record SlotQuotient (f : Format) (n x : ℕ) (o : LuOutcome) (w w' : List Float) : Type 0 where
  pub result : where_factored o (slot n w' x) ≡ division f n (slot n w 2) (slot n w x)
  pub only : Only (member (2 ∷ x ∷ [])) w w'

-- ---- Newton's iteration: a stands in slot 0, x in slot 1, y in slot 3; slot 2 is scratch

-- the end of a pass, from y on
pub record NewtonMean (f : Format) (n : ℕ) (r : Pass) (w w' : List Float) : Type 0 where
  pub step : as_step r (slot n w' 1) ≡ newton_next f n (slot n w 1) (some (slot n w 3))
  pub only : Only (member (1 ∷ 2 ∷ [])) w w'

-- all passes, from the start that the definition gives
pub record NewtonRoot (f : Format) (n : ℕ) (r : Pass) (w w' : List Float) : Type 0 where
  pub step : as_step r (slot n w' 1) ≡ newton f n (slot n w 0) pass_limit
  pub only : Only (member (1 ∷ 2 ∷ 3 ∷ [])) w w'

-- ---- Denman and Beavers' iteration: y stands in slot 0, z in slot 1, 1 / z in slot 3, 1 / y in slot 4; slots 2 and 5 are scratch

-- the pair that stands in a workspace
abbrev pub pair_in : ℕ → List Float → Pair
pair_in n w = record { y = slot n w 0; z = slot n w 1 }

-- the end of a pass, once both are inverted
pub record Means (f : Format) (n : ℕ) (r : Pass) (w w' : List Float) : Type 0 where
  pub step : as_step r (pair_in n w') ≡ denman_beavers_next f n (pair_in n w) (some (slot n w 3)) (some (slot n w 4))
  pub only : Only (member (0 ∷ 1 ∷ 2 ∷ 5 ∷ [])) w w'

-- the pass once z is inverted
pub record SecondInverse (f : Format) (n : ℕ) (r : Pass) (w w' : List Float) : Type 0 where
  pub step : as_step r (pair_in n w') ≡ denman_beavers_next f n (pair_in n w) (some (slot n w 3)) (inverse f n (slot n w 0))
  pub only : Only (member (0 ∷ 1 ∷ 2 ∷ 4 ∷ 5 ∷ [])) w w'
