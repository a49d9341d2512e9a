-- expm from its norm, and powm. Definitions only.
use Rattle.std.specs.Prelude.{ℕ, zero, suc, ◌/◌, ◌%◌, ◌^◌, Bool, false, cond, List, [], ◌∷◌, ℤ, pos, negsuc, eqb, Float}
use Rattle.std.specs.Float.{Format, binary64}
use Rattle.std.specs.Float.Ieee.{round}
use Rattle.arithmetic_floats.specs.Float.{halvings, near_integer, integer_of}
use Rattle.arithmetic_matrices.specs.Product.{mul_m, identity_m, squared, times_m}
use Rattle.arithmetic_matrices.specs.Norm.{norm1}
use Rattle.arithmetic_questions.specs.Result.{Result, done, ◌>>=◌, first_no}
use Rattle.arithmetic_questions.specs.Questions.{norm_question, halvings_question}
use Rattle.lu_factoring.specs.Solve.{inverse}
use Rattle.functions_definitions.specs.Exponential.{exponential}
use Rattle.functions_definitions.specs.Roots.{or_not_converged}
use Rattle.functions_definitions.specs.Logarithm.{logarithm}

-- the halvings that a norm sets, where questions 12 and 17 pass
unfoldable pub halvings_for : Float → Result ℕ
halvings_for x = first_no (norm_question x ∷ halvings_question (halvings x) ∷ []) >>= λ _. done 0 (halvings x)

-- what is reported of them
unfoldable pub halvings_report : Float → Result (Unit {0})
halvings_report x = halvings_for x >>= λ s. done s tt

-- expm: its halvings are those of the 1-norm
unfoldable pub exp_m : Format → ℕ → List Float → Result (List Float)
exp_m f n a = halvings_for (norm1 f n a) >>= λ s. done s (exponential f n s a)

-- ---- whole powers, by the exponent's bits from the lowest

-- I times those of b, b ^ 2, b ^ 4, .. whose bit of e is set, among the lowest i bits
unfoldable pub bit_power : Format → ℕ → List Float → ℕ → ℕ → List Float
bit_power f n b e zero = identity_m n
bit_power f n b e (suc i) = let r = bit_power f n b e i in cond (eqb (e / 2 ^ i % 2) 1) (mul_m f n r (squared f n i b)) r

-- the power e of the inverse: refusal 13 where LU refuses a
abbrev pub inverse_power : Format → ℕ → List Float → ℕ → Result (List Float)
inverse_power f n a e = or_not_converged (inverse f n a) >>= λ b. done 0 (bit_power f n b e 64)

-- a negative power is that of the inverse
unfoldable pub whole_power : Format → ℕ → List Float → ℤ → Result (List Float)
whole_power f n a (pos e) = done 0 (bit_power f n a e 64)
whole_power f n a (negsuc e) = inverse_power f n a (suc e)

-- the exponential of p times l, with no halvings reported
abbrev pub multiple_exponential : Format → ℕ → Float → List Float → Result (List Float)
multiple_exponential f n p l = exp_m f n (times_m f n p l) >>= λ x. done 0 x

-- any other power: exp (p log A)
unfoldable pub fractional_power : Format → ℕ → List Float → Float → Result (List Float)
fractional_power f n a p = logarithm f n a >>= λ l. multiple_exponential f n p l

-- p is taken for a whole number within 1e-14 of one. The test is binary64's in both formats.
unfoldable pub is_whole : Float → Bool
is_whole p = near_integer binary64 (round binary64 false 1 (10 ^ 14)) p

-- powm: the power p
unfoldable pub power_m : Format → ℕ → List Float → Float → Result (List Float)
power_m f n a p = cond (is_whole p) (whole_power f n a (integer_of binary64 p)) (fractional_power f n a p)
