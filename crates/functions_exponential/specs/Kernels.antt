-- What the code's steps leave in a workspace: the matrix stands in slot 0, a power of it in slot 1, the numerator in slot 2, the denominator in slot 3, the quotient in slot 5. Only the contracts of kernels cite it. Definitions only.
use Rattle.std.specs.Prelude.{ℕ, cond, List, [], ◌∷◌, ◌≡◌, eqb, Float}
use Rattle.std.specs.Float.{Format}
use Rattle.arithmetic_matrices.specs.Product.{mul_m}
use Rattle.arithmetic_matrices.specs.Workspace.{slot, member, Only}
use Rattle.lu_factoring.specs.Lu.{LuOutcome, lu_outcome}
use Rattle.lu_factoring.specs.Solve.{stand_in, quotient}
use Rattle.functions_definitions.specs.Exponential.{numerator, denominator, pade, exponential}

-- the power after power k of a, which is p: a itself after power 0, and otherwise p times a
unfoldable pub next_power : Format → ℕ → ℕ → List Float → List Float → List Float
next_power f n k a p = cond (eqb k 0) a (mul_m f n p a)

-- slot 1 held a power, and holds the next. Slot 4 is scratch.
pub record Raised (f : Format) (n k : ℕ) (w w' : List Float) : Type 0 where
  pub raised : slot n w' 1 ≡ next_power f n k (slot n w 0) (slot n w 1)
  pub only : Only (member (1 ∷ 4 ∷ [])) w w'

-- slots 2 and 3 become the Padé numerator and denominator of slot 0
pub record Summed (f : Format) (n : ℕ) (w w' : List Float) : Type 0 where
  pub above : slot n w' 2 ≡ numerator f n (slot n w 0)
  pub under : slot n w' 3 ≡ denominator f n (slot n w 0)
  pub only : Only (member (1 ∷ 2 ∷ 3 ∷ 4 ∷ [])) w w'

-- slot 5 becomes the quotient of slot 2 by slot 3, or slot 2 where LU refuses slot 3; r is its outcome
pub record PadeQuotient (f : Format) (n : ℕ) (w w' : List Float) (r : LuOutcome) : Type 0 where
  pub outcome : r ≡ lu_outcome f n (slot n w 3)
  pub divided : slot n w' 5 ≡ stand_in r (quotient f n (slot n w 3) (slot n w 2)) (slot n w 2)
  pub only : Only (member (3 ∷ 5 ∷ [])) w w'

-- slot 0 becomes its Padé quotient
pub record Approximated (f : Format) (n : ℕ) (w w' : List Float) : Type 0 where
  pub result : slot n w' 0 ≡ pade f n (slot n w 0)
  pub only : Only (member (0 ∷ 1 ∷ 2 ∷ 3 ∷ 4 ∷ 5 ∷ [])) w w'

-- slot 0 becomes its exponential at s halvings
pub record Exponentiated (f : Format) (n s : ℕ) (w w' : List Float) : Type 0 where
  pub result : slot n w' 0 ≡ exponential f n s (slot n w 0)
  pub only : Only (member (0 ∷ 1 ∷ 2 ∷ 3 ∷ 4 ∷ 5 ∷ [])) w w'
