-- A number plus a half, without its fraction, from the fields of its bits, over the format. Assumes nothing.
use Rattle.std.proofs.Common.{◌≡◌, ℕ, suc, ◌+◌, ◌-◌, ◌*◌, ◌/◌, ◌%◌, ◌^◌, ◌<◌, ◌≤◌, false, ◌⊎◌, sym, ap, ◌∙◌, subst, ap₂, inl, inr, le_trans, le_of_eq, lt_of_lt_of_le, lt_of_le_of_lt, mod-lt, zero-lt-suc, mul_assoc, mul_comm, div-lt_iff_lt-mul, add-mul, eq-zero-or-pos, add_comm, mul-pos, one-mul, pow-suc, le-div_iff_mul-le, mul-one, mul-add, div-le_self, mul_left_comm, arith, pow_pos, pow_mono, pow-add, shl_lt}
use native.Mathlib.Nat.{div-eq_of_lt, div-div-eq-div-mul, mul-div-mul_right, mul-div-mul_left, add-div_right}
use lib.Ieee.{Float, Format, prec, emax, low, hid, ones, of_bits}
use lib.Ieee.Exact.{HasValue, odd_sign}
use lib.Ieee.Fits.{two, reach}
use lib.Ieee.Nearest.{div_same}
use lib.Ieee.Positive.{num, den, den_pos, value→cross}
use Rattle.arithmetic_floats.specs.Float.{half_up}
use Rattle.arithmetic_floats.proofs.Patterns.{twice_hid}
use Rattle.arithmetic_floats.proofs.Reading.{of_bits_low, of_bits_mid}

-- ---- fractions

-- of the same number as another fraction
pub half_scale : (n d a l : ℕ) → 0 < d → 0 < l → n * l ≡ a * d → (2 * n + d) / (2 * d) ≡ (2 * a + l) / (2 * l)
half_scale n d a l D L e =
    div_same (2 * n + d) (2 * d) (2 * a + l) (2 * l) (mul-pos (zero-lt-suc 1) D) (mul-pos (zero-lt-suc 1) L)
    (spread n d l ∙ ap₂ (λ (x y : ℕ). 2 * (2 * x + y)) e (mul_comm d l) ∙ sym (spread a l d))
  where
    spread : (n d l : ℕ) → (2 * n + d) * (2 * l) ≡ 2 * (2 * (n * l) + d * l)
    spread n d l = mul_left_comm (2 * n + d) 2 l ∙ ap (λ (x : ℕ). 2 * x) (add-mul (2 * n) d l ∙ ap (λ (x : ℕ). x + d * l) (mul_assoc 2 n l))

-- q * 2 ^ i of 2 ^ (i + suc c)
pub half_shift : (q c i : ℕ) → (2 * (q * 2 ^ i) + 2 ^ (i + suc c)) / (2 * 2 ^ (i + suc c)) ≡ (q / 2 ^ c + 1) / 2
half_shift q c i =
    ap₂ (λ (x y : ℕ). x / y) above below
    ∙ mul-div-mul_right (2 * (q + 2 ^ c)) (2 * (2 ^ c * 2)) (pow_pos i)
    ∙ mul-div-mul_left (q + 2 ^ c) (2 ^ c * 2) (zero-lt-suc 1)
    ∙ sym (div-div-eq-div-mul (q + 2 ^ c) (2 ^ c) 2)
    ∙ ap (λ (x : ℕ). x / 2) (add-div_right q (pow_pos c))
  where
    unit : 2 ^ (i + suc c) ≡ 2 ^ c * 2 * 2 ^ i
    unit = pow-add 2 i (suc c) ∙ ap (λ (x : ℕ). 2 ^ i * x) (pow-suc 2 c) ∙ mul_comm (2 ^ i) (2 ^ c * 2)

    above : 2 * (q * 2 ^ i) + 2 ^ (i + suc c) ≡ 2 * (q + 2 ^ c) * 2 ^ i
    above = ap₂ (λ (x y : ℕ). x + y) (sym (mul_assoc 2 q (2 ^ i))) (unit ∙ ap (λ (x : ℕ). x * 2 ^ i) (mul_comm (2 ^ c) 2)) ∙ sym (add-mul (2 * q) (2 * 2 ^ c) (2 ^ i)) ∙ ap (λ (x : ℕ). x * 2 ^ i) (sym (mul-add 2 q (2 ^ c)))

    below : 2 * 2 ^ (i + suc c) ≡ 2 * (2 ^ c * 2) * 2 ^ i
    below = ap (λ (x : ℕ). 2 * x) unit ∙ sym (mul_assoc 2 (2 ^ c * 2) (2 ^ i))

-- ---- from the fields

half_of : (f : Format) (v : Float) (a : ℕ) → HasValue v false a (2 ^ low f) → half_up v ≡ (2 * a + 2 ^ low f) / (2 * 2 ^ low f)
half_of f v a h = half_scale (num v) (den v) a (2 ^ low f) (den_pos v) (pow_pos (low f)) (value→cross v a (2 ^ low f) h)

half_none : (l a : ℕ) → 0 < l → a < 2 ^ (l - 1) → (2 * a + 2 ^ l) / (2 * 2 ^ l) ≡ 0
half_none l a L h = div-eq_of_lt (less (2 ^ (l - 1)) (2 ^ l) h (ap (λ (x : ℕ). 2 ^ x) (one_less l L) ∙ pow-suc 2 (l - 1)))
  where
    one_less : (l : ℕ) → 0 < l → l ≡ suc (l - 1)
    one_less l L = omega arith

    less : (p q : ℕ) → a < p → q ≡ p * 2 → 2 * a + q < 2 * q
    less p q x y = omega arith

module _ (f : Format) (b : ℕ) where
  abbrev field : ℕ
  field = b / hid f

  abbrev digits : ℕ
  digits = b % hid f

  low_pos : 0 < low f
  low_pos = go (prec f) (emax f) (two f) (reach f)
    where
      go : (p e : ℕ) → 2 ≤ p → p ≤ suc e → 0 < e + p - 2
      go p e a b = omega arith

  digits_lt : digits < hid f
  digits_lt = mod-lt b (pow_pos (prec f - 1))

  full : hid f + digits < 2 ^ prec f
  full = omega (arith, digits_lt, twice_hid f)

  mid_ge : 0 < field → hid f ≤ b
  mid_ge p = le_trans (le_of_eq (sym (one-mul (hid f)))) ((le-div_iff_mul-le (pow_pos (prec f - 1))).0 p)

  -- below a half
  pub half_small : 2 ≤ emax f → field < emax f - 1 → 0 ≡ half_up (of_bits f b)
  half_small E h = go (eq-zero-or-pos field)
    where
      tiny : (p e : ℕ) → 2 ≤ p → 2 ≤ e → p - 1 ≤ e + p - 2 - 1
      tiny p e a b = omega arith

      small : (x p e : ℕ) → 2 ≤ p → 0 < x → x < e - 1 → p + (x - 1) ≤ e + p - 2 - 1
      small x p e a b c = omega arith

      under : (x e : ℕ) → x < e - 1 → x < 2 * e + 1
      under x e c = omega arith

      alone : field ≡ 0 → b < hid f
      alone z = subst (λ (y : ℕ). b < y) (one-mul (hid f)) ((div-lt_iff_lt-mul (pow_pos (prec f - 1))).0 (lt_of_le_of_lt (le_of_eq z) (zero-lt-suc 0)))

      go : (field ≡ 0) ⊎ (0 < field) → 0 ≡ half_up (of_bits f b)
      go (inl z) =
          sym (half_of f (of_bits f b) (b * 2 ^ 0) (subst (λ (v : Float). HasValue v false (b * 2 ^ 0) (2 ^ low f)) (sym (of_bits_low f b (alone z))) (odd_sign (prec f) false b 0 (low f)))
          ∙ half_none (low f) (b * 2 ^ 0) low_pos (lt_of_le_of_lt (le_of_eq (mul-one b)) (lt_of_lt_of_le (alone z) (pow_mono (tiny (prec f) (emax f) (two f) E)))))
      go (inr p) =
          sym (half_of f (of_bits f b) ((hid f + digits) * 2 ^ (field - 1)) (subst (λ (v : Float). HasValue v false ((hid f + digits) * 2 ^ (field - 1)) (2 ^ low f))
          (sym (of_bits_mid f b (mid_ge p) ((div-lt_iff_lt-mul (pow_pos (prec f - 1))).0 (under field (emax f) h)))) (odd_sign (prec f) false (hid f + digits) (field - 1) (low f)))
          ∙ half_none (low f) ((hid f + digits) * 2 ^ (field - 1)) low_pos (lt_of_lt_of_le (shl_lt (prec f) (field - 1) full) (pow_mono (small field (prec f) (emax f) (two f) p h))))

  -- from a half on, and below 2 ^ (prec - 1): the digits, cut
  pub half_cut : 0 < field → field ≤ low f → field < ones f → ((digits + hid f) / 2 ^ (low f - field) + 1) / 2 ≡ half_up (of_bits f b)
  half_cut p l o =
      sym (half_of f (of_bits f b) ((hid f + digits) * 2 ^ (field - 1)) (subst (λ (v : Float). HasValue v false ((hid f + digits) * 2 ^ (field - 1)) (2 ^ low f))
      (sym (of_bits_mid f b (mid_ge p) ((div-lt_iff_lt-mul (pow_pos (prec f - 1))).0 o))) (odd_sign (prec f) false (hid f + digits) (field - 1) (low f)))
      ∙ ap (λ (n : ℕ). (2 * ((hid f + digits) * 2 ^ (field - 1)) + 2 ^ n) / (2 * 2 ^ n)) (parts (low f) l)
      ∙ half_shift (hid f + digits) (low f - field) (field - 1)
      ∙ ap (λ (n : ℕ). (n / 2 ^ (low f - field) + 1) / 2) (add_comm (hid f) digits))
    where
      parts : (l : ℕ) → field ≤ l → l ≡ field - 1 + suc (l - field)
      parts l h = omega (arith, p)

  pub cut_le : ((digits + hid f) / 2 ^ (low f - field) + 1) / 2 ≤ hid f
  cut_le = halved ((digits + hid f) / 2 ^ (low f - field)) (lt_of_le_of_lt (div-le_self (digits + hid f) (2 ^ (low f - field))) (lt_of_le_of_lt (le_of_eq (add_comm digits (hid f))) full))
    where
      halved : (n : ℕ) → n < 2 ^ prec f → (n + 1) / 2 ≤ hid f
      halved n h = omega (arith, twice_hid f)
