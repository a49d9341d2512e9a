-- The least power of two that is not below a number: `halvings` gives it, and so do the fields of a bit pattern, over the format. Assumes nothing.
use Rattle.std.proofs.Common.{◌≡◌, ℕ, zero, suc, ◌+◌, ◌-◌, ◌*◌, ◌/◌, ◌%◌, ◌^◌, ◌<◌, ◌≤◌, false, not, T, ℤ, sym, refl, ap, ◌∙◌, subst, le_trans, le_of_eq, lt_of_lt_of_le, le_of_suc-le-suc, not-suc-le-zero, lt_of_le_of_lt, le_of_lt, mul-le-mul_right, mod-lt, mul_comm, le_antisymm, lt_of_mul-lt-mul_right, mul-lt-mul_of_pos_right, one-mul, lt_of_not-le, zero-add, mul-one, mul_right_comm, not-le_of_lt, div-mul-le_self, le_of_mul-le-mul_right, arith, lt→ltb, pow_pos, pow_mono, pow-add, shl_lt}
use native.Mathlib.Nat.{lt-div-mul-add, div-eq_of_lt}
use lib.Pow.{pow-lt}
use lib.Ieee.{Float, nan, inf, fin, Format, prec, emax, low, up, down, size, hid, ones, fits, to_bits, lt, eq, le}
use lib.Ieee.Digits.{size-lt, size_reaches}
use lib.Ieee.Fits.{two, reach, down_pos}
use lib.Ieee.Positive.{num, den, den_pos}
use lib.Ieee.Scale.{finite}
use Rattle.arithmetic_floats.specs.Float.{halvings, magnitude, Least, +zero, one}
use Rattle.arithmetic_floats.proofs.Order.{or_le, le_or}
use Rattle.arithmetic_floats.proofs.Patterns.{twice_hid}
use Rattle.arithmetic_floats.proofs.Middle.{pow_lt_back}
use Rattle.arithmetic_floats.proofs.Cases as cases

pub least_unique : (n d s t : ℕ) → Least n d s → Least n d t → s ≡ t
least_unique n d s t a b = le_antisymm (under s t a b) (under t s b a)
  where
    under : (s t : ℕ) → Least n d s → Least n d t → s ≤ t
    under s t a b = le_of_suc-le-suc (lt_of_not-le (λ (g : suc t ≤ s). not-le_of_lt (a.1 t g) b.0))

module _ (n d : ℕ) (D : 0 < d) where
  abbrev c : ℕ
  c = (n + (d - 1)) / d

  up_to : n ≤ c * d
  up_to = omega (arith, lt-div-mul-add {a = n + (d - 1)} D)

  pub ceiling_least : Least n d (size (c - 1))
  ceiling_least = (
    le_trans up_to (mul-le-mul_right d (reach_it (size-lt (c - 1)))),
    λ j l.
        let a : suc (2 ^ j) * d ≤ c * d = mul-le-mul_right d (past (2 ^ j) (pow_pos j) (size_reaches (c - 1) j l)) in
        let b : c * d ≤ n + (d - 1) = div-mul-le_self (n + (d - 1)) d in
        omega (arith, native.Mathlib.Nat.suc-mul (2 ^ j) d),
  )
    where
      reach_it : c - 1 < 2 ^ size (c - 1) → c ≤ 2 ^ size (c - 1)
      reach_it h = omega arith

      past : (p : ℕ) → 0 < p → p ≤ c - 1 → suc p ≤ c
      past p a b = omega arith

pub halvings_least : (x : Float) → Least (num x) (den x) (halvings x)
unfolding halvings
halvings_least x = ceiling_least (num x) (den x) (den_pos x)

-- the same number as another fraction
pub least_scale : (n d a l s : ℕ) → 0 < d → 0 < l → n * l ≡ a * d → Least a l s → Least n d s
least_scale n d a l s D L e h = (
  le_of_mul-le-mul_right {k = l} (le_trans (le_of_eq e) (le_trans (mul-le-mul_right d h.0) (le_of_eq (mul_right_comm (2 ^ s) l d)))) L,
  λ j k. lt_of_mul-lt-mul_right l (lt_of_le_of_lt (le_of_eq (mul_right_comm (2 ^ j) d l)) (lt_of_lt_of_le (mul-lt-mul_of_pos_right (h.1 j k) D) (le_of_eq (sym e)))),
)

-- ---- at most 1, and above

pub at_most_one : (m : ℕ) (e : ℤ) → T (le (fin false m e) one) → m * up e ≤ down e
unfolding le lt eq
at_most_one m e h = omega (arith, or_le (m * up e * 1) (1 * down e) h)

pub above_one_lem : (m : ℕ) (e : ℤ) → (T (le (fin false m e) one) → ⊥) → down e < m * up e
unfolding le lt eq
above_one_lem m e h = lt_of_not-le (λ (l : m * up e ≤ down e). h (le_or (m * up e * 1) (1 * down e) (omega arith)))

-- ---- from the fields of the bits of an x above 1

module _ (f : Format) (m : ℕ) (e : ℤ) (held : T (fits f (fin false m e))) (more : down e < m * up e) where
  abbrev x : Float
  x = fin false m e

  abbrev b : ℕ
  b = to_bits f x

  abbrev field : ℕ
  field = b / hid f

  abbrev digits : ℕ
  digits = b % hid f

  above : T (lt +zero x)
  unfolding lt
  above = lt→ltb (0 * 1 * down e) (m * up e * 1) (lt_of_le_of_lt (le_of_eq (native.Mathlib.Nat.zero-mul (down e))) (lt_of_lt_of_le (lt_of_le_of_lt none more) (le_of_eq (sym (mul-one (m * up e))))))
    where
      none : 0 ≤ down e
      none = omega arith

  digits_lt : digits < hid f
  digits_lt = mod-lt b (pow_pos (prec f - 1))

  -- it is no subnormal value
  field_pos : 0 < field
  field_pos = lt_of_not-le (λ (g : field ≤ 0).
      let v = cases.value_low f x held above (none field g) in
      not-le_of_lt more
      (le_of_mul-le-mul_right {k = 2 ^ low f}
      (le_trans (le_of_eq v.1) (le_trans (mul-le-mul_right (down e) (le_trans (le_of_eq (mul-one digits)) (le_trans (le_of_lt digits_lt) (pow_mono (shorter (prec f) (emax f) (two f) (reach f)))))) (le_of_eq (mul_comm (2 ^ low f) (down e)))))
      (pow_pos (low f))))
    where
      none : (n : ℕ) → n ≤ 0 → n ≡ 0
      none n g = omega arith

      shorter : (p e : ℕ) → 2 ≤ p → p ≤ suc e → p - 1 ≤ e + p - 2
      shorter p e a b = omega arith

  field_lt : field < ones f
  field_lt = lt_of_not-le (λ (g : ones f ≤ field). subst (λ (v : Float). T (not (finite v))) (sym (cases.is_infinity f x held above g)) tt)

  -- in smallest values
  abbrev a : ℕ
  a = (digits + hid f) * 2 ^ (field - 1)

  is : m * up e * 2 ^ low f ≡ a * down e
  is = (cases.value_mid f x held above field_pos field_lt).1

  a_gt : 2 ^ low f < a
  a_gt = lt_of_mul-lt-mul_right (down e) (lt_of_lt_of_le (lt_of_le_of_lt (le_of_eq (mul_comm (2 ^ low f) (down e))) (mul-lt-mul_of_pos_right more (pow_pos (low f)))) (le_of_eq is))

  full : digits + hid f < 2 ^ prec f
  full = omega (arith, digits_lt, twice_hid f)

  pub field_ge : emax f ≤ field
  field_ge = enough (field) (prec f) (emax f) (two f) field_pos (pow_lt_back (low f) (prec f + (field - 1)) (native.Mathlib.Nat.lt_trans a_gt (shl_lt (prec f) (field - 1) full)))
    where
      enough : (x p e : ℕ) → 2 ≤ p → 0 < x → e + p - 2 < p + (x - 1) → e ≤ x
      enough x p e a b h = omega arith

  abbrev E : ℕ
  E = field - emax f

  place : prec f - 1 + (field - 1) ≡ E + low f
  place = go field (prec f) (emax f) (two f) field_pos field_ge
    where
      go : (x p e : ℕ) → 2 ≤ p → 0 < x → e ≤ x → p - 1 + (x - 1) ≡ x - e + (e + p - 2)
      go x p e a b h = omega arith

  hid_is : hid f * 2 ^ (field - 1) ≡ 2 ^ E * 2 ^ low f
  hid_is = sym (pow-add 2 (prec f - 1) (field - 1)) ∙ ap (λ (n : ℕ). 2 ^ n) place ∙ pow-add 2 E (low f)

  pub least_power : digits ≡ 0 → E ≡ halvings x
  least_power z =
      least_unique (m * up e) (down e) E (halvings x)
      (least_scale (m * up e) (down e) a (2 ^ low f) E (down_pos e) (pow_pos (low f)) is (le_of_eq at, λ j l. lt_of_lt_of_le (mul-lt-mul_of_pos_right (pow-lt l) (pow_pos (low f))) (le_of_eq (sym at))))
      (halvings_least x)
    where
      at : a ≡ 2 ^ E * 2 ^ low f
      at = ap (λ (n : ℕ). (n + hid f) * 2 ^ (field - 1)) z ∙ ap (λ (n : ℕ). n * 2 ^ (field - 1)) (zero-add (hid f)) ∙ hid_is

  pub least_above : (digits ≡ 0 → ⊥) → E + 1 ≡ halvings x
  least_above z =
      least_unique (m * up e) (down e) (E + 1) (halvings x)
      (least_scale (m * up e) (down e) a (2 ^ low f) (E + 1) (down_pos e) (pow_pos (low f)) is
      (le_of_lt top, λ j l. lt_of_le_of_lt (mul-le-mul_right (2 ^ low f) (pow_mono (lower j l))) over))
      (halvings_least x)
    where
      lower : (j : ℕ) → j < E + 1 → j ≤ E
      lower j l = omega arith

      some : hid f < digits + hid f
      some = omega arith

      over : 2 ^ E * 2 ^ low f < a
      over = lt_of_le_of_lt (le_of_eq (sym hid_is)) (mul-lt-mul_of_pos_right some (pow_pos (field - 1)))

      next : (x p e : ℕ) → 2 ≤ p → 0 < x → e ≤ x → p + (x - 1) ≡ x - e + 1 + (e + p - 2)
      next x p e a b h = omega arith

      top : a < 2 ^ (E + 1) * 2 ^ low f
      top = lt_of_lt_of_le (shl_lt (prec f) (field - 1) full) (le_of_eq (ap (λ (n : ℕ). 2 ^ n) (next field (prec f) (emax f) (two f) field_pos field_ge) ∙ pow-add 2 (E + 1) (low f)))

-- ---- the same of any finite x that is not negative

abbrev pub Plain : Float → Type 0
Plain x = (m : ℕ) × (e : ℤ) × (x ≡ fin false m e)

module _ (f : Format) (x : Float) (s : Plain x) (held : T (fits f x)) where
  pub none_above : T (le x one) → 0 ≡ halvings x
  none_above h =
      least_unique (num x) (den x) 0 (halvings x)
      (subst (λ (v : Float). Least (num v) (den v) 0) (sym s.2)
      (le_trans (at_most_one s.0 s.1 (subst (λ (v : Float). T (le v one)) s.2 h)) (le_of_eq (sym (one-mul (down s.1)))), λ j l. absurd (not-suc-le-zero l)))
      (halvings_least x)

  module _ (k : T (le x one) → ⊥) where
    at : T (fits f (fin false s.0 s.1))
    at = subst (λ (v : Float). T (fits f v)) s.2 held

    over : down s.1 < s.0 * up s.1
    over = above_one_lem s.0 s.1 (subst (λ (v : Float). T (le v one) → ⊥) s.2 k)

    pub exponent_ge : emax f ≤ to_bits f x / hid f
    exponent_ge = subst (λ (v : Float). emax f ≤ to_bits f v / hid f) (sym s.2) (field_ge f s.0 s.1 at over)

    pub at_power : to_bits f x % hid f ≡ 0 → to_bits f x / hid f - emax f ≡ halvings x
    at_power = subst (λ (v : Float). to_bits f v % hid f ≡ 0 → to_bits f v / hid f - emax f ≡ halvings v) (sym s.2) (least_power f s.0 s.1 at over)

    pub past_power : (to_bits f x % hid f ≡ 0 → ⊥) → to_bits f x / hid f - emax f + 1 ≡ halvings x
    past_power = subst (λ (v : Float). (to_bits f v % hid f ≡ 0 → ⊥) → to_bits f v / hid f - emax f + 1 ≡ halvings v) (sym s.2) (least_above f s.0 s.1 at over)

-- a sign does not count
pub halvings_magnitude : (x : Float) → halvings (magnitude x) ≡ halvings x
unfolding halvings magnitude
halvings_magnitude nan = refl
halvings_magnitude (inf s) = refl
halvings_magnitude (fin s zero e) =
    let below : 0 * up e + (down e - 1) < down e = omega (arith, down_pos e) in
    ap (λ (q : ℕ). size (q - 1)) (sym (div-eq_of_lt below))
halvings_magnitude (fin s (suc m) e) = refl
