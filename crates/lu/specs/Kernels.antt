-- A copy of a matrix factored in a workspace. Only the contracts of kernels cite it. Definitions only.
use Rattle.std.specs.Prelude.{ℕ, ◌≡◌, List, ltb, Float, Ok, Err}
use Rattle.std.specs.Float.{Format}
use Rattle.arithmetic_questions.specs.Result.{Result, refused, done}
use Rattle.arithmetic_matrices.specs.Workspace.{Only}
use Rattle.arithmetic_matrices.specs.Kernels.{patch}
use Rattle.arithmetic_matrices.specs.Matrix.{put}
use Rattle.lu_factoring.specs.Lu.{LuOutcome, lu_at, lu_pivot, lu_outcome, lu_factors, lu_pivots}
use Rattle.lu_factoring.specs.Kernels.{columns_done}
use Rattle.lu_factoring.specs.Solve.{stand_in}

-- r is the outcome for the n by n matrix a; w' and ps' are the workspace and the pivots after it
pub record FactoredCopy (f : Format) (n : ℕ) (a w : List Float) (ps : List ℕ) (w' : List Float) (ps' : List ℕ) (r : LuOutcome) : Type 0 where
  pub outcome : r ≡ lu_outcome f n a
  pub factors : w' ≡ put w 0 (lu_at f n a (columns_done n r))
  pub pivots : ps' ≡ patch 0 (columns_done n r) (lu_pivot f n a) ps

-- the same with the factors and the pivots written to lists of their own where every column passes
pub record Computing (f : Format) (n : ℕ) (a fs fs' : List Float) (ps ps' : List ℕ) (w w' : List Float) (r : LuOutcome) : Type 0 where
  pub outcome : r ≡ lu_outcome f n a
  pub factors : fs' ≡ stand_in r (lu_factors f n a) fs
  pub pivots : ps' ≡ stand_in r (lu_pivots f n a) ps
  pub only : Only (λ s. ltb s 32) w w'

-- what `compute` gives for an outcome, without its outputs
abbrev pub lu_result : LuOutcome → Result (Unit {0})
lu_result (Ok _) = done 0 tt
lu_result (Err bad) = refused 14 bad.column 0
