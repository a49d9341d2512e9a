-- What the parts of the derivative of the root leave in a workspace. The derivative goes to slot 1; the system of order n * n stands from slot 8 on, its right-hand column in slot 7. Only the contracts of kernels cite it. Definitions only.
use Rattle.std.specs.Prelude.{ℕ, ◌*◌, ◌≡◌, Bool, true, false, cond, List, [], ◌∷◌, Float}
use Rattle.std.specs.Float.{Format}
use Rattle.arithmetic_matrices.specs.Product.{transpose_m}
use Rattle.arithmetic_matrices.specs.Workspace.{slot, member, Only}
use Rattle.lu_factoring.specs.Solve.{where_factored}
use Rattle.functions_definitions.specs.Derivatives.{column_division, root_with_derivative}
use Rattle.arithmetic_questions.specs.Result.{Result, refused, done}
use Rattle.arithmetic_questions.specs.Questions.{answer, binary, of_frechet_sqrtm}
use Rattle.arithmetic_questions.specs.Outputs.{Both}
use Rattle.lu_factoring.specs.Lu.{LuOutcome}

-- T of the system S X + X T' = E: S, or its transpose
abbrev pub second_of : Bool → ℕ → List Float → List Float
second_of transposed n s = cond transposed (transpose_m n s) s

-- the call of either derivative: both ask the same questions
abbrev pub derivative_call : Format → Bool → ℕ → ℕ → List Float → ℕ → ℕ → List Float → ℕ → ℕ → ℕ → Result Both
derivative_call f transposed r c a r' c' e out out' w = answer of_frechet_sqrtm (binary r c a r' c' e (out ∷ out' ∷ []) w) (root_with_derivative f r (second_of transposed r) a e)

-- the slots of the column and of the matrix, whose order is 64 at most
abbrev pub system_slots : List ℕ
system_slots = 7 ∷ 8 ∷ 9 ∷ 10 ∷ 11 ∷ 12 ∷ 13 ∷ 14 ∷ 15 ∷ 16 ∷ 17 ∷ 18 ∷ 19 ∷ 20 ∷ 21 ∷ 22 ∷ 23 ∷ []

-- the slots that change: that of the derivative and those of the system
abbrev pub derived_slots : List ℕ
derived_slots = 1 ∷ system_slots

-- the system is solved in place; o is the outcome of LU
pub record SystemSolved (f : Format) (n : ℕ) (o : LuOutcome) (w w' : List Float) : Type 0 where
  pub result : where_factored o (slot n w' 7) ≡ column_division f (n * n) (slot (n * n) w 8) (slot n w 7)
  pub only : Only (member system_slots) w w'

-- whether LU accepted: x, or refusal 13
abbrev pub where_accepted : Bool → List Float → Result (List Float)
where_accepted true x = done 0 x
where_accepted false x = refused 13 0 0

-- slot 1 becomes the derivative that the definition gives, x. b is whether LU accepted.
pub record Derived (n : ℕ) (x : Result (List Float)) (b : Bool) (w w' : List Float) : Type 0 where
  pub result : where_accepted b (slot n w' 1) ≡ x
  pub only : Only (member derived_slots) w w'
