-- Powers of two by their bit patterns, over the format: 2 ^ i smallest values. Assumes nothing.
use Rattle.std.proofs.Common.{◌≡◌, ℕ, zero, suc, ◌+◌, ◌-◌, ◌*◌, ◌/◌, ◌%◌, ◌^◌, ◌<◌, ◌≤◌, Bool, true, false, cond, not, ◌&&◌, T, eqb, ltb, leb, ℤ, pos, negsuc, sym, refl, ap, ◌∙◌, le_of_eq, le_refl, lt_of_lt_of_le, lt_of_le_of_lt, suc-mul, lt_of_mul-lt-mul_right, mul-lt-mul_of_pos_right, one-mul, mul_right_comm, mul-div_cancel, arith, le→leb, lt→ltb, pow_pos, pow_mono, pow-add}
use lib.Dec.{nleb→lt}
use lib.Arith.{lt→nleb}
use lib.Pow.{pow-lt}
use lib.Ieee.{fin, nan_bits, Format, binary32, binary64, prec, emax, low, up, down, minus, size, hid, ones, fits, to_bits, of_bits}
use lib.Ieee.Bits.{is_true, is_false, of_bits-to_bits}
use lib.Ieee.Digits.{minus_val}
use lib.Ieee.Exact.{HasValue}
use lib.Ieee.Fits.{two, reach, and_i, down_pos}
use Rattle.arithmetic_floats.specs.Float.{power_of_two, inverse_power_of_two}
use Rattle.arithmetic_floats.proofs.Rounding.{size_is}
use Rattle.arithmetic_floats.proofs.Patterns.{to_bits_of}
use Rattle.arithmetic_floats.proofs.Cases.{low_no_nan}

down_minus : (a l : ℕ) → down (minus a l) ≤ 2 ^ l
down_minus a l = go (leb l a) (nleb→lt l a)
  where
    short : (a l : ℕ) → a < l → suc (l - suc a) ≤ l
    short a l h = omega arith

    go : (b : Bool) → (T (not b) → a < l) → down (cond b (pos (a - l)) (negsuc (l - suc a))) ≤ 2 ^ l
    go true k = pow_pos l
    go false k = pow_mono (short a l (k tt))

module _ (f : Format) (i : ℕ) (i-le : i ≤ low f + emax f) where
  abbrev e : ℤ
  e = minus i (low f)

  value : HasValue (fin false 1 e) false (2 ^ i) (2 ^ low f)
  value = (refl, minus_val 1 i (low f) ∙ ap (λ (x : ℕ). x * down e) (one-mul (2 ^ i)))

  below : 1 * up e < 2 ^ suc (emax f) * down e
  below =
      lt_of_mul-lt-mul_right (2 ^ low f)
      (lt_of_le_of_lt (le_of_eq value.1)
      (lt_of_lt_of_le (mul-lt-mul_of_pos_right (pow-lt {i = i} {j = suc (emax f) + low f} (omega arith)) (down_pos e))
      (le_of_eq (ap (λ (x : ℕ). x * down e) (pow-add 2 (suc (emax f)) (low f)) ∙ mul_right_comm (2 ^ suc (emax f)) (2 ^ low f) (down e)))))

  pub pow_fits : T (fits f (fin false 1 e))
  unfolding fits
  pow_fits =
      and_i (eqb (1 % 2) 1 && ltb 1 (2 ^ prec f) && leb (down e) (2 ^ low f)) (ltb (1 * up e) (2 ^ suc (emax f) * down e))
      (and_i (eqb (1 % 2) 1 && ltb 1 (2 ^ prec f)) (leb (down e) (2 ^ low f)) (lt→ltb 1 (2 ^ prec f) (pow_mono {i = 1} (omega (arith, two f)))) (le→leb (down e) (2 ^ low f) (down_minus i (low f))))
      (lt→ltb (1 * up e) (2 ^ suc (emax f) * down e) below)

  long : size (2 ^ i) ≡ suc i
  long = size_is (2 ^ i) i (le_refl (2 ^ i)) (pow-lt (le_refl (suc i)))

  -- where it is normal: nothing but the exponent's field
  pub pow_bits : prec f ≤ suc i → of_bits f ((i + 2 - prec f) * hid f) ≡ fin false 1 e
  pow_bits h =
      let k = suc i - prec f in
      let bits : to_bits f (fin false 1 e) ≡ (i + 2 - prec f) * hid f =
      to_bits_of f (fin false 1 e) (2 ^ i) value
      ∙ ap (λ (n : ℕ). (n - prec f) * hid f + 2 ^ i / 2 ^ (n - prec f)) long
      ∙ ap (λ (n : ℕ). k * hid f + n) (ap (λ (n : ℕ). n / 2 ^ k) (ap (λ (n : ℕ). 2 ^ n) (parts (prec f) (two f) h) ∙ pow-add 2 (prec f - 1) k) ∙ mul-div_cancel (hid f) (pow_pos k))
      ∙ sym (suc-mul k (hid f))
      ∙ ap (λ (n : ℕ). n * hid f) (field (prec f) h) in
      ap (of_bits f) (sym bits) ∙ of_bits-to_bits f (fin false 1 e) pow_fits
    where
      parts : (p : ℕ) → 2 ≤ p → p ≤ suc i → i ≡ p - 1 + (suc i - p)
      parts p a b = omega arith

      field : (p : ℕ) → p ≤ suc i → suc (suc i - p) ≡ i + 2 - p
      field p b = omega arith

-- ---- 2 ^ s and 2 ^ -s

pub power_is : (l s : ℕ) → fin false 1 (minus (s + l) l) ≡ power_of_two s
power_is l s = ap (λ (b : Bool). fin false 1 (cond b (pos (s + l - l)) (negsuc (l - suc (s + l))))) (is_true (leb l (s + l)) (le→leb l (s + l) (omega arith))) ∙ ap (λ (n : ℕ). fin false 1 (pos n)) (rest s l)
  where
    rest : (s l : ℕ) → s + l - l ≡ s
    rest s l = omega arith

pub inverse_is : (l s : ℕ) → s ≤ l → fin false 1 (minus (l - s) l) ≡ inverse_power_of_two s
inverse_is l zero h = ap (λ (n : ℕ). fin false 1 (minus n l)) (none l) ∙ power_is l 0
  where
    none : (l : ℕ) → l - 0 ≡ 0 + l
    none l = omega arith
inverse_is l (suc s) h =
    ap (λ (b : Bool). fin false 1 (cond b (pos (l - suc s - l)) (negsuc (l - suc (l - suc s))))) (is_false (leb l (l - suc s)) (lt→nleb l (l - suc s) (omega arith)))
    ∙ ap (λ (n : ℕ). fin false 1 (negsuc n)) (rest l s h)
    ∙ sym (ap (λ (b : Bool). fin false 1 (cond b (pos (0 - suc s)) (negsuc (suc s - 1)))) (is_false (leb (suc s) 0) (lt→nleb (suc s) 0 (omega arith))))
  where
    rest : (l s : ℕ) → suc s ≤ l → l - suc (l - suc s) ≡ suc s - 1
    rest l s h = omega arith

-- ---- by their bits, and none of these is a NaN's

-- ones f * hid f are the bits of an infinity
below_top : (f : Format) (k : ℕ) → k ≤ 2 * emax f → k * hid f < ones f * hid f
below_top f k h = mul-lt-mul_of_pos_right (lt_of_le_of_lt h (le_of_eq (top_field f))) (pow_pos (prec f - 1))
  where
    top_field : (f : Format) → suc (2 * emax f) ≡ ones f
    top_field binary32 = refl
    top_field binary64 = refl

-- 2 ^ s: nothing but the exponent's field
pub power_bits : (f : Format) (s : ℕ) → s ≤ emax f → of_bits f ((s + emax f) * hid f) ≡ power_of_two s
power_bits f s h =
    ap (λ (n : ℕ). of_bits f (n * hid f)) (field (emax f) (prec f) (two f) (reach f))
    ∙ pow_bits f (s + low f) (omega arith) (some (emax f) (prec f) (two f) (reach f))
    ∙ power_is (low f) s
  where
    field : (e p : ℕ) → 2 ≤ p → p ≤ suc e → s + e ≡ s + (e + p - 2) + 2 - p
    field e p a b = omega arith

    some : (e p : ℕ) → 2 ≤ p → p ≤ suc e → p ≤ suc (s + (e + p - 2))
    some e p a b = omega arith

pub power_no_nan : (f : Format) (s : ℕ) → s ≤ emax f → T (not (nan_bits f ((s + emax f) * hid f)))
power_no_nan f s h = low_no_nan f ((s + emax f) * hid f) (below_top f (s + emax f) (omega arith))

-- 2 ^ -s, where it is normal: the exponent's field
pub inverse_bits : (f : Format) (s : ℕ) → s < emax f → of_bits f ((emax f - s) * hid f) ≡ inverse_power_of_two s
inverse_bits f s h =
    ap (λ (n : ℕ). of_bits f (n * hid f)) (field (emax f) (prec f) h (two f) (reach f))
    ∙ pow_bits f (low f - s) (omega arith) (some (emax f) (prec f) h (two f) (reach f))
    ∙ inverse_is (low f) s (small (emax f) (prec f) h (two f))
  where
    field : (e p : ℕ) → s < e → 2 ≤ p → p ≤ suc e → e - s ≡ e + p - 2 - s + 2 - p
    field e p a b c = omega arith

    some : (e p : ℕ) → s < e → 2 ≤ p → p ≤ suc e → p ≤ suc (e + p - 2 - s)
    some e p a b c = omega arith

    small : (e p : ℕ) → s < e → 2 ≤ p → s ≤ e + p - 2
    small e p a b = omega arith

pub inverse_no_nan : (f : Format) (s : ℕ) → T (not (nan_bits f ((emax f - s) * hid f)))
inverse_no_nan f s = low_no_nan f ((emax f - s) * hid f) (below_top f (emax f - s) (omega arith))
