-- Cosine and sine: Taylor sums of the scaled matrix, doubled s times. Definitions only.
use Rattle.std.specs.Prelude.{ℕ, zero, suc, List, pos, Float}
use Rattle.std.specs.Float.{Format, binary64}
use Rattle.std.specs.Float.Ieee.{add, div, of_int}
use Rattle.arithmetic_floats.specs.Float.{one, constant, power_of_two}
use Rattle.arithmetic_matrices.specs.Product.{mul_m, times_m, identity_m, minus_identity_m, deduct_m, add_multiple_m}
use Rattle.arithmetic_matrices.specs.Norm.{norm1}
use Rattle.arithmetic_questions.specs.Result.{Result, done, ◌>>=◌}
use Rattle.functions_definitions.specs.Exponential.{scaled}
use Rattle.functions_definitions.specs.Powers.{halvings_for}

-- 1 / k, worked out in binary64
unfoldable pub one_over : Format → ℕ → Float
one_over f k = constant f (div binary64 one (of_int binary64 (pos k)))

module _ (f : Format) (n : ℕ) where
  -- ---- the Taylor sums

  -- The source forms X2 = X X, X4 = X2 X2, X6 = X4 X2 and X8 = X6 X2.
  abbrev pub second_power : List Float → List Float
  second_power x = mul_m f n x x

  abbrev pub fourth_power : List Float → List Float
  fourth_power x = mul_m f n (second_power x) (second_power x)

  abbrev pub sixth_power : List Float → List Float
  sixth_power x = mul_m f n (fourth_power x) (second_power x)

  abbrev pub eighth_power : List Float → List Float
  eighth_power x = mul_m f n (sixth_power x) (second_power x)

  -- I - X2 / 2 + X4 / 24 - X6 / 720, from left to right, of the powers given
  unfoldable pub cosine_to6 : List Float → List Float → List Float → List Float
  cosine_to6 x2 x4 x6 = deduct_m f n (one_over f 720) x6 (add_multiple_m f n (one_over f 24) x4 (deduct_m f n (one_over f 2) x2 (identity_m n)))

  -- sinm's cosine: the sum to X6
  unfoldable pub cosine_beside : List Float → List Float
  cosine_beside x = cosine_to6 (second_power x) (fourth_power x) (sixth_power x)

  -- cosm's: the same and + X8 / 40320
  unfoldable pub cosine_to8 : List Float → List Float
  cosine_to8 x = add_multiple_m f n (one_over f 40320) (eighth_power x) (cosine_to6 (second_power x) (fourth_power x) (sixth_power x))

  -- X - X3 / 6 + X5 / 120 - X7 / 5040, where X3 = X2 X, X5 = X3 X2 and X7 = X5 X2
  unfoldable pub sine_to7 : List Float → List Float
  sine_to7 x =
      let x2 = second_power x in
      let x3 = mul_m f n x2 x in
      let x5 = mul_m f n x3 x2 in
      deduct_m f n (one_over f 5040) (mul_m f n x5 x2) (add_multiple_m f n (one_over f 120) x5 (deduct_m f n (one_over f 6) x3 x))

  -- ---- the double angle

  -- 2 X Y
  abbrev pub twice_product : List Float → List Float → List Float
  twice_product x y = times_m f n (power_of_two 1) (mul_m f n x y)

  -- C becomes 2 C C - I
  abbrev pub double_cosine : List Float → List Float
  double_cosine c = minus_identity_m f n (twice_product c c)

  -- S becomes 2 S C
  abbrev pub double_sine : List Float → List Float → List Float
  double_sine s c = twice_product s c

  -- after i doublings, from c, and from s and c
  unfoldable pub cosine_doubled : List Float → ℕ → List Float
  cosine_doubled c zero = c
  cosine_doubled c (suc i) = double_cosine (cosine_doubled c i)

  unfoldable pub sine_doubled : List Float → List Float → ℕ → List Float
  sine_doubled s c zero = s
  sine_doubled s c (suc i) = double_sine (sine_doubled s c i) (cosine_doubled c i)

  -- ---- cosine and sine

  -- at s halvings: the sums at a times 2 ^ -s, doubled s times
  unfoldable pub cosine_at : ℕ → List Float → List Float
  cosine_at s a = cosine_doubled (cosine_to8 (scaled f n s a)) s

  unfoldable pub sine_at : ℕ → List Float → List Float
  sine_at s a = sine_doubled (sine_to7 (scaled f n s a)) (cosine_beside (scaled f n s a)) s

  -- the halvings are those of norm + 1
  unfoldable pub trigonometric_halvings : List Float → Result ℕ
  trigonometric_halvings a = halvings_for (add f (norm1 f n a) one)

  -- cosm
  unfoldable pub cos_m : List Float → Result (List Float)
  cos_m a = trigonometric_halvings a >>= λ s. done s (cosine_at s a)

  -- sinm
  unfoldable pub sin_m : List Float → Result (List Float)
  sin_m a = trigonometric_halvings a >>= λ s. done s (sine_at s a)
