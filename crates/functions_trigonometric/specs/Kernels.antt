-- What the parts of cosine and sine leave in a workspace. The matrix X of order n stands in slot 0. Only the contracts of kernels cite it. Definitions only.
use Rattle.std.specs.Prelude.{ℕ, ◌≡◌, List, [], ◌∷◌, Float}
use Rattle.std.specs.Float.{Format}
use Rattle.arithmetic_matrices.specs.Product.{mul_m, deduct_m, add_multiple_m}
use Rattle.arithmetic_matrices.specs.Workspace.{slot, member, Only}
use Rattle.functions_definitions.specs.Trigonometric.{one_over, second_power, fourth_power, sixth_power, cosine_to6, cosine_to8, cosine_beside, sine_to7, twice_product, double_cosine, double_sine, cosine_doubled, sine_doubled, cosine_at, sine_at}

-- ---- the cosine's sums: X2, X4 and X6 stand in slots 1, 2 and 3, the sum in slot 4

-- the whole numbers whose reciprocals the sums take
abbrev pub reciprocals : List ℕ
reciprocals = 2 ∷ 6 ∷ 24 ∷ 120 ∷ 720 ∷ 5040 ∷ 40320 ∷ []

-- the even powers of X
pub record EvenPowers (f : Format) (n : ℕ) (w w' : List Float) : Type 0 where
  pub second : slot n w' 1 ≡ second_power f n (slot n w 0)
  pub fourth : slot n w' 2 ≡ fourth_power f n (slot n w 0)
  pub sixth : slot n w' 3 ≡ sixth_power f n (slot n w 0)
  pub only : Only (member (1 ∷ 2 ∷ 3 ∷ [])) w w'

-- the sum to X6, of the powers that stand there
pub record Sixth (f : Format) (n : ℕ) (w w' : List Float) : Type 0 where
  pub summed : slot n w' 4 ≡ cosine_to6 f n (slot n w 1) (slot n w 2) (slot n w 3)
  pub only : Only (member (4 ∷ [])) w w'

-- the same of X, with two of its powers
pub record Beside (f : Format) (n : ℕ) (w w' : List Float) : Type 0 where
  pub second : slot n w' 1 ≡ second_power f n (slot n w 0)
  pub sixth : slot n w' 3 ≡ sixth_power f n (slot n w 0)
  pub cosine : slot n w' 4 ≡ cosine_beside f n (slot n w 0)
  pub only : Only (member (1 ∷ 2 ∷ 3 ∷ 4 ∷ [])) w w'

-- the sum to X8, which is formed in slot 0
pub record Eighth (f : Format) (n : ℕ) (w w' : List Float) : Type 0 where
  pub cosine : slot n w' 4 ≡ cosine_to8 f n (slot n w 0)
  pub only : Only (member (0 ∷ 1 ∷ 2 ∷ 3 ∷ 4 ∷ [])) w w'

-- ---- the sine's sum: X2 stands in slot 1, X3, X5 and X7 in slots 2, 3 and 5

-- the odd powers, of the second that stands there
pub record OddPowers (f : Format) (n : ℕ) (w w' : List Float) : Type 0 where
  pub third : slot n w' 2 ≡ mul_m f n (slot n w 1) (slot n w 0)
  pub fifth : slot n w' 3 ≡ mul_m f n (mul_m f n (slot n w 1) (slot n w 0)) (slot n w 1)
  pub seventh : slot n w' 5 ≡ mul_m f n (mul_m f n (mul_m f n (slot n w 1) (slot n w 0)) (slot n w 1)) (slot n w 1)
  pub only : Only (member (2 ∷ 3 ∷ 5 ∷ [])) w w'

-- the sum to X7, of the powers that stand there, takes the place of X
pub record Seventh (f : Format) (n : ℕ) (w w' : List Float) : Type 0 where
  pub summed : slot n w' 0 ≡ deduct_m f n (one_over f 5040) (slot n w 5) (add_multiple_m f n (one_over f 120) (slot n w 3) (deduct_m f n (one_over f 6) (slot n w 2) (slot n w 0)))
  pub only : Only (member (0 ∷ [])) w w'

-- both sums of X
pub record BothSeries (f : Format) (n : ℕ) (w w' : List Float) : Type 0 where
  pub sine : slot n w' 0 ≡ sine_to7 f n (slot n w 0)
  pub cosine : slot n w' 4 ≡ cosine_beside f n (slot n w 0)
  pub only : Only (member (0 ∷ 1 ∷ 2 ∷ 3 ∷ 4 ∷ 5 ∷ [])) w w'

-- ---- doubling: the cosine stands in slot 4, the sine in slot 0; slot 1 is scratch

-- slot c becomes 2 times its product with the cosine
pub record Doubled (f : Format) (n c : ℕ) (w w' : List Float) : Type 0 where
  pub product : slot n w' c ≡ twice_product f n (slot n w c) (slot n w 4)
  pub only : Only (member (c ∷ 1 ∷ [])) w w'

-- the cosine of the double angle, and sine and cosine of it
pub record CosineDoubled (f : Format) (n : ℕ) (w w' : List Float) : Type 0 where
  pub cosine : slot n w' 4 ≡ double_cosine f n (slot n w 4)
  pub only : Only (member (1 ∷ 4 ∷ [])) w w'

pub record BothDoubled (f : Format) (n : ℕ) (w w' : List Float) : Type 0 where
  pub sine : slot n w' 0 ≡ double_sine f n (slot n w 0) (slot n w 4)
  pub cosine : slot n w' 4 ≡ double_cosine f n (slot n w 4)
  pub only : Only (member (0 ∷ 1 ∷ 4 ∷ [])) w w'

-- the cosine alone, and sine and cosine, after i doublings
pub record CosineAfter (f : Format) (n : ℕ) (w : List Float) (i : ℕ) (w' : List Float) : Type 0 where
  pub cosine : slot n w' 4 ≡ cosine_doubled f n (slot n w 4) i
  pub only : Only (member (1 ∷ 4 ∷ [])) w w'

pub record BothAfter (f : Format) (n : ℕ) (w : List Float) (i : ℕ) (w' : List Float) : Type 0 where
  pub sine : slot n w' 0 ≡ sine_doubled f n (slot n w 0) (slot n w 4) i
  pub cosine : slot n w' 4 ≡ cosine_doubled f n (slot n w 4) i
  pub only : Only (member (0 ∷ 1 ∷ 4 ∷ [])) w w'

-- ---- cosine and sine at s halvings: they take the place of the matrix

pub record CosineRun (f : Format) (n s : ℕ) (w w' : List Float) : Type 0 where
  pub result : slot n w' 0 ≡ cosine_at f n s (slot n w 0)
  pub only : Only (member (0 ∷ 1 ∷ 2 ∷ 3 ∷ 4 ∷ [])) w w'

pub record SineRun (f : Format) (n s : ℕ) (w w' : List Float) : Type 0 where
  pub result : slot n w' 0 ≡ sine_at f n s (slot n w 0)
  pub only : Only (member (0 ∷ 1 ∷ 2 ∷ 3 ∷ 4 ∷ 5 ∷ [])) w w'
