-- What the parts of the logarithm and of its derivative leave in a workspace. Only the contracts of kernels cite it. Definitions only.
use Rattle.std.specs.Prelude.{ℕ, suc, ◌≤◌, ◌≡◌, false, List, [], ◌∷◌, Float, Option, Some, None, IfSome}
use Rattle.std.specs.Float.{Format}
use Rattle.arithmetic_matrices.specs.Product.{minus_identity_m, difference_quotient_m}
use Rattle.arithmetic_questions.specs.Result.{Result, refused, done}
use Rattle.arithmetic_questions.specs.declared.answer.Report.{Report}
use Rattle.arithmetic_matrices.specs.Workspace.{slot, member, Only}
use Rattle.functions_definitions.specs.Iterate.{Step, running, stopped, failed, after, ended}
use Rattle.functions_definitions.specs.Roots.{pass_limit}
use Rattle.functions_definitions.specs.Logarithm.{is_far, root_limit, Rooted, rooting_step, rooting, further_terms, Series, series_step, series, near_logarithm}
use Rattle.functions_roots.specs.declared.pass.Pass.{Pass}
use Rattle.functions_roots.specs.declared.pass.Passed.{Passed}
use Rattle.functions_roots.specs.declared.pass.Pass.TheVariants.{Running, Stopped, Failed}
use Rattle.functions_roots.specs.Kernels.{NewtonRoot, Reports}
use Rattle.functions_logarithms.specs.declared.logarithm.TakenRoots.{TakenRoots}
use Rattle.functions_definitions.specs.Derivatives.{log_step}
use Rattle.functions_definitions.specs.Reports.{passes_report, newton_report, rooting_report, roots_report, series_report}

-- ---- the square roots: the matrix stands in slot 0, and slots 1 to 3 are scratch

-- one root, by Newton's iteration, and what its passes report
pub record ReportedNewton (f : Format) (n : ℕ) (r : Passed) (w w' : List Float) : Type 0 where
  pub root : NewtonRoot f n r.pass w w'
  pub reports : Reports pass_limit r (newton_report f n (slot n w 0))

-- the matrix x, after k roots
abbrev pub rooted_as : List Float → ℕ → Rooted
rooted_as x k = record { work = x; roots = k }

-- what a pass makes of the iteration, x being the matrix that it leaves and k the number of roots before it
abbrev pub as_rooting : Pass → List Float → ℕ → Step Rooted
as_rooting Running x k = running (rooted_as x (suc k))
as_rooting Stopped x k = stopped (rooted_as x k)
as_rooting Failed x k = failed

-- one pass: a root, or none where the matrix is near I
pub record RootingPass (f : Format) (n : ℕ) (r : Passed) (w w' : List Float) : Type 0 where
  pub step : (k : ℕ) → as_rooting r.pass (slot n w' 0) k ≡ rooting_step f n (rooted_as (slot n w 0) k)
  pub reports : Reports pass_limit r (rooting_report f n (slot n w 0))
  pub near : r.pass ≡ Stopped → is_far f n (slot n w' 0) ≡ false
  pub only : Only (member (0 ∷ 1 ∷ 2 ∷ 3 ∷ [])) w w'

-- what the passes answer, x being the matrix that they leave
abbrev pub as_taken : Option TakenRoots → List Float → Result Rooted
as_taken (Some t) x = done 0 (rooted_as x t.count)
as_taken None x = refused 13 0 0

-- all passes
pub record RootsTaken (f : Format) (n : ℕ) (r : Option TakenRoots) (w w' : List Float) : Type 0 where
  pub taken : as_taken r (slot n w' 0) ≡ ended (rooting f n (slot n w 0) root_limit)
  pub few : IfSome r (λ t. t.count ≤ root_limit)
  pub reports : IfSome r (λ t. t.report ≡ roots_report f n (slot n w 0))
  pub only : Only (member (0 ∷ 1 ∷ 2 ∷ 3 ∷ [])) w w'

-- ---- the series: X stands in slot 0, a power of it in slot 1, the sum in slot 2, a term in slot 3

-- the state of the series that stands in a workspace
abbrev pub series_in : ℕ → List Float → Series
series_in n w = record { power = slot n w 1; sum = slot n w 2 }

-- the further terms are added
pub record TermsAdded (f : Format) (n : ℕ) (r : Report) (w w' : List Float) : Type 0 where
  pub terms : done 0 (series_in n w') ≡ ended (after (series_step f n (slot n w 0)) (series_in n w) further_terms)
  pub report : r ≡ passes_report (after (series_step f n (slot n w 0)) (series_in n w)) further_terms
  pub only : Only (member (1 ∷ 2 ∷ 3 ∷ [])) w w'

-- the sum is formed from X alone
pub record SeriesSummed (f : Format) (n : ℕ) (r : Report) (w w' : List Float) : Type 0 where
  pub terms : done 0 (series_in n w') ≡ ended (series f n (slot n w 0) further_terms)
  pub report : r ≡ series_report f n (slot n w 0)
  pub only : Only (member (1 ∷ 2 ∷ 3 ∷ [])) w w'

-- the logarithm of a matrix near I, times 2 ^ k, takes its place in slot 0
pub record LogarithmNear (f : Format) (n k : ℕ) (r : Report) (w w' : List Float) : Type 0 where
  pub result : done 0 (slot n w' 0) ≡ near_logarithm f n k (slot n w 0)
  pub report : r ≡ series_report f n (minus_identity_m f n (slot n w 0))
  pub only : Only (member (0 ∷ 1 ∷ 2 ∷ 3 ∷ [])) w w'

-- ---- the derivative: log (A + h E) stands in slot 0, log A in slot 6

-- log A goes to slot 0, and the difference quotient to slot 1
pub record QuotientPlaced (f : Format) (n : ℕ) (w w' : List Float) : Type 0 where
  pub value : slot n w' 0 ≡ slot n w 6
  pub derivative : slot n w' 1 ≡ difference_quotient_m f n (log_step f) (slot n w 0) (slot n w 6)
  pub only : Only (member (0 ∷ 1 ∷ [])) w w'
