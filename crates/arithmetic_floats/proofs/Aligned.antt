-- The root of q * 2 ^ e smallest values, over the format, from the digits of q moved to the top of a word of 64. Assumes nothing.
use Rattle.std.proofs.Common.{◌≡◌, ℕ, zero, suc, ◌+◌, ◌-◌, ◌*◌, ◌/◌, ◌%◌, ◌^◌, ◌<◌, ◌≤◌, false, sym, refl, ap, ◌∙◌, subst, le_trans, le_of_eq, lt_of_lt_of_le, lt_of_le_of_lt, lt_irrefl, mul-le-mul_right, mul_assoc, suc-mul, add-mul, lt_of_mul-lt-mul_right, pow-suc, lt_of_not-le, le_of_mul-le-mul_right, add-one, arith, lit≤, pow_pos, pow_mono, pow-add, shl_lt, shl_exact}
use native.Mathlib.Nat.{mul-mod_left}
use lib.Pow.{pow-lt}
use lib.Count.{count_leading_zeros, leading_top, leading_le}
use lib.Ieee.{Format, binary32, binary64, prec, emax, low, hid, ones, units, of_bits}
use lib.Ieee.Fits.{two, reach}
use Rattle.arithmetic_floats.specs.Root.{IsRoot, Scaled, sqrt_units}
use Rattle.arithmetic_floats.proofs.Roots.{sq_le_back}
use Rattle.arithmetic_floats.proofs.Rounding.{root_rounds}
use Rattle.arithmetic_floats.proofs.Patterns.{bits_units, twice_hid}
use Rattle.arithmetic_floats.proofs.Middle.{sq_lt_back}

-- ---- of a format these proofs use two facts more: its digits fit a word with room for the loop, and its smallest value is far below them

pub narrow : (f : Format) → prec f ≤ 59
narrow binary32 = lit≤ tt
narrow binary64 = lit≤ tt

pub deep : (f : Format) → prec f + prec f + 2 ≤ low f
deep binary32 = lit≤ tt
deep binary64 = lit≤ tt

-- ---- powers of two

-- the number is the same, its power of two split
regroup : (q e l t h : ℕ) → e + l ≡ t + (h + h) → q * 2 ^ e * 2 ^ l ≡ q * 2 ^ t * (2 ^ h * 2 ^ h)
regroup q e l t h x =
    mul_assoc q (2 ^ e) (2 ^ l)
    ∙ ap (λ (y : ℕ). q * y) (sym (pow-add 2 e l) ∙ ap (λ (y : ℕ). 2 ^ y) x ∙ pow-add 2 t (h + h) ∙ ap (λ (y : ℕ). 2 ^ t * y) (pow-add 2 h h))
    ∙ sym (mul_assoc q (2 ^ t) (2 ^ h * 2 ^ h))

four_pow : (n : ℕ) → 4 ^ n ≡ 2 ^ (n + n)
four_pow zero = refl
four_pow (suc n) = pow-suc 4 n ∙ ap (λ (x : ℕ). x * 4) (four_pow n) ∙ sym (pow-add 2 (n + n) 2) ∙ ap (λ (x : ℕ). 2 ^ x) (more n)
  where
    more : (n : ℕ) → n + n + 2 ≡ suc n + suc n
    more n = omega arith

-- the word with n pairs of digits after it, as a number with a whole word after it
words : (q s n t : ℕ) → s + (n + n) ≡ t + 64 → q * 2 ^ s * 4 ^ n ≡ q * 2 ^ t * 2 ^ 64
words q s n t e =
    mul_assoc q (2 ^ s) (4 ^ n)
    ∙ ap (λ (y : ℕ). q * y) (ap (λ (y : ℕ). 2 ^ s * y) (four_pow n) ∙ sym (pow-add 2 s (n + n)) ∙ ap (λ (y : ℕ). 2 ^ y) e ∙ pow-add 2 t 64)
    ∙ sym (mul_assoc q (2 ^ t) (2 ^ 64))

-- where the code moves q to: to the top of 64 digits, or to one below, so that an even power of two is left
abbrev pub shift : ℕ → ℕ → ℕ → ℕ
shift z e l = z - (z + e + l) % 2

module _ (f : Format) (q e : ℕ) (S : Scaled f q e) where
  abbrev p : ℕ
  p = prec f

  abbrev z : ℕ
  z = count_leading_zeros 64 q

  top : (j : ℕ) × (z + suc j ≡ 64) × (2 ^ j ≤ q) × (q < 2 ^ suc j)
  top = leading_top 64 q S.q_pos (lt_of_lt_of_le S.q_lt (pow_mono (wide (prec f) (narrow f))))
    where
      wide : (p : ℕ) → p ≤ 59 → p ≤ 64
      wide p h = omega arith

  j_lt : top.0 < p
  j_lt = lt_of_not-le (λ (g : p ≤ top.0). lt_irrefl q (lt_of_lt_of_le S.q_lt (le_trans (pow_mono g) top.2)))

  pub z_ge : 64 ≤ z + p
  z_ge = omega (arith, j_lt, top.1)

  pub z_le : z ≤ 64
  z_le = leading_le 64 q

  abbrev s : ℕ
  s = shift z e (low f)

  pub s_lt : s < 64
  s_lt = omega (arith, top.1)

  aligned : q * 2 ^ s % 2 ^ 64 ≡ q * 2 ^ s
  aligned = shl_exact (suc top.0) s 64 top.3 (omega (arith, top.1))

  -- the power of two that q is taken times: the root of that has suc p digits
  t : ℕ
  t = s + (suc p + suc p) - 64

  t_is : s + (suc p + suc p) ≡ t + 64
  unfolding t
  t_is = omega (arith, z_ge)

  pub s_le : s ≤ e + (low f + 64 - (p + p))
  s_le = omega (arith, z_le, deep f)

  -- the unit of the result, in smallest values, is 2 ^ unit
  abbrev pub unit : ℕ
  unit = (e + (low f + 64 - (p + p)) - s) / 2

  unit_suc : unit ≡ suc (unit - 1)
  unit_suc = omega (arith, z_le, z_ge, two f, reach f, deep f)

  halves : e + low f ≡ t + (unit - 1 + (unit - 1))
  unfolding t
  halves = omega (arith, z_le, z_ge, two f, reach f, deep f, narrow f)

  unit_lt : unit + 2 < ones f
  unit_lt = omega (arith, z_le, z_ge, two f, reach f, deep f)

  even : q * 2 ^ t % 2 ≡ 0
  even = ap (λ (x : ℕ). x % 2) (ap (λ (x : ℕ). q * 2 ^ x) one_less ∙ ap (λ (x : ℕ). q * x) (pow-suc 2 (t - 1)) ∙ sym (mul_assoc q (2 ^ (t - 1)) 2)) ∙ mul-mod_left (q * 2 ^ (t - 1)) 2
    where
      one_less : t ≡ suc (t - 1)
      one_less = omega (arith, t_is, z_ge, two f)

  number_ge : 2 ^ p * 2 ^ p ≤ q * 2 ^ t
  number_ge =
      le_trans (le_of_eq (sym (pow-add 2 p p)))
      (le_trans (pow_mono {i = p + p} {j = top.0 + t} (omega (arith, top.1, z_ge, t_is))) (le_trans (le_of_eq (pow-add 2 top.0 t)) (mul-le-mul_right (2 ^ t) top.2)))

  number_lt : q * 2 ^ t < 2 ^ suc p * 2 ^ suc p
  number_lt =
      lt_of_lt_of_le (shl_lt (suc top.0) t top.3)
      (le_trans (pow_mono {i = suc top.0 + t} {j = suc p + suc p} (omega (arith, top.1, t_is))) (le_of_eq (pow-add 2 (suc p) (suc p))))

  -- ---- with the digits r of the root, as the loop gives them

  module _ (r : ℕ) (R : (r * r * 2 ^ 64 ≤ q * 2 ^ s % 2 ^ 64 * 4 ^ suc p) × (q * 2 ^ s % 2 ^ 64 * 4 ^ suc p < (r + 1) * (r + 1) * 2 ^ 64)) where
    read : q * 2 ^ s % 2 ^ 64 * 4 ^ suc p ≡ q * 2 ^ t * 2 ^ 64
    read = ap (λ (x : ℕ). x * 4 ^ suc p) aligned ∙ words q s (suc p) t t_is

    root_is : IsRoot (q * 2 ^ t) r
    root_is = (
      le_of_mul-le-mul_right (le_trans R.0 (le_of_eq read)) (pow_pos 64),
      lt_of_mul-lt-mul_right (2 ^ 64) (subst (λ (x : ℕ). q * 2 ^ t * 2 ^ 64 < x * x * 2 ^ 64) (add-one r) (lt_of_le_of_lt (le_of_eq (sym read)) R.1)),
    )

    r_ge : 2 ^ p ≤ r
    r_ge = sq_le_back (2 ^ p) r (lt_of_le_of_lt number_ge root_is.1)

    pub r_lt : r < 2 ^ suc p
    r_lt = sq_lt_back r (2 ^ suc p) (lt_of_le_of_lt root_is.0 number_lt)

    digits_ge : hid f ≤ (r + 1) / 2
    digits_ge = omega (arith, r_ge, twice_hid f)

    digits_le : (r + 1) / 2 ≤ 2 ^ p
    digits_le = omega (arith, r_lt, pow-suc 2 p)

    pub bits_lt : unit * hid f + (r + 1) / 2 < ones f * hid f
    bits_lt = lt_of_lt_of_le sum (le_trans (le_of_eq (sym (suc-mul (unit + 2) (hid f)))) (mul-le-mul_right (hid f) unit_lt))
      where
        sum : unit * hid f + (r + 1) / 2 < (unit + 2) * hid f + hid f
        sum = omega (arith, digits_le, twice_hid f, add-mul unit 2 (hid f), pow_pos (p - 1))

    fine : (r + 1) / 2 * 2 ^ unit < 2 ^ (low f + suc (emax f))
    fine =
        lt_of_le_of_lt (le_trans (mul-le-mul_right (2 ^ unit) digits_le) (le_of_eq (sym (pow-add 2 p unit))))
        (pow-lt {i = p + unit} {j = low f + suc (emax f)} (omega (arith, unit_lt, two f, reach f, deep f)))

    pub bits_are : of_bits f (unit * hid f + (r + 1) / 2) ≡ sqrt_units f (q * 2 ^ e)
    bits_are =
        bits_units f ((r + 1) / 2) unit digits_ge digits_le fine
        ∙ ap (λ (k : ℕ). units f false ((r + 1) / 2) k) unit_suc
        ∙ sym (root_rounds f (q * 2 ^ e) (q * 2 ^ t) (unit - 1) r (regroup q e (low f) t (unit - 1) halves) root_is r_ge r_lt even)
