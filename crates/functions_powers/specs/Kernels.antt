-- What the parts of whole powers leave in a workspace. The matrix X of order n stands in slot 0. Only the contracts of kernels cite it. Definitions only.
use Rattle.std.specs.Prelude.{ℕ, ◌%◌, ◌≡◌, Bool, true, false, cond, List, [], ◌∷◌, ℤ, pos, negsuc, eqb, Float}
use Rattle.std.specs.Float.{Format}
use Rattle.arithmetic_matrices.specs.Product.{mul_m, squared}
use Rattle.arithmetic_matrices.specs.Workspace.{slot, member, Only}
use Rattle.functions_definitions.specs.Powers.{bit_power}

-- ---- a power of X stands in slot 0, the product in slot 1; slot 2 is scratch

-- the product is multiplied by slot 0 where the lowest bit of `rest` is set
pub record BitMultiplied (f : Format) (n rest : ℕ) (w w' : List Float) : Type 0 where
  pub product : slot n w' 1 ≡ cond (eqb (rest % 2) 1) (mul_m f n (slot n w 1) (slot n w 0)) (slot n w 1)
  pub only : Only (member (1 ∷ 2 ∷ [])) w w'

-- after the lowest i bits of e
pub record BitsMultiplied (f : Format) (n e i : ℕ) (w w' : List Float) : Type 0 where
  pub power : slot n w' 0 ≡ squared f n i (slot n w 0)
  pub product : slot n w' 1 ≡ bit_power f n (slot n w 0) e i
  pub only : Only (member (0 ∷ 1 ∷ 2 ∷ [])) w w'

-- after all of them
pub record AllMultiplied (f : Format) (n e : ℕ) (w w' : List Float) : Type 0 where
  pub product : slot n w' 1 ≡ bit_power f n (slot n w 0) e 64
  pub only : Only (member (0 ∷ 1 ∷ 2 ∷ [])) w w'

-- and the product takes the place of the matrix
pub record BitPowered (f : Format) (n e : ℕ) (w w' : List Float) : Type 0 where
  pub result : slot n w' 0 ≡ bit_power f n (slot n w 0) e 64
  pub only : Only (member (0 ∷ 1 ∷ 2 ∷ [])) w w'

-- a whole number is below 0
abbrev pub is_negative : ℤ → Bool
is_negative (pos e) = false
is_negative (negsuc e) = true
