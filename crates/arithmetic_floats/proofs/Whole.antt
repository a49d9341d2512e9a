-- A whole number as a value of the format, and `round_away` by the bits of a value and of its magnitude. Assumes nothing.
use Rattle.std.proofs.Common.{◌≡◌, ℕ, zero, suc, ◌+◌, ◌-◌, ◌*◌, ◌/◌, ◌%◌, ◌^◌, ◌<◌, ◌≤◌, Bool, true, false, cond, not, T, eqb, ltb, leb, ◌⊎◌, ℤ, pos, sym, refl, ap, ◌∙◌, subst, inl, inr, le_trans, le_of_eq, le-add_right, lt_of_le_of_lt, add_assoc, mul-le-mul_right, zero-lt-suc, add-mul, lt_of_mul-lt-mul_right, lt_of_not-le, zero-mul, mul-one, mul_right_comm, not-le_of_lt, arith, le→leb, lt→ltb, pow_pos}
use Prim.Native.Nat.{compare}
use native.Mathlib.Nat.{eq_of_mul-eq-mul_right}
use lib.Ieee.{Float, nan, inf, fin, Format, prec, emax, low, up, down, size, nearest, odd, units, round, neg, ne, eq, of_int, fits, is_nan, hid, ones, top, of_fields, to_bits}
use lib.Ieee.Bits.{is_true, of_bits-to_bits}
use lib.Ieee.Digits.{size_reaches}
use lib.Ieee.Exact.{HasValue, round_exact}
use lib.Ieee.Fits.{two, reach, round-fits, down_pos, kept-lt}
use lib.Ieee.Back.{round_whole, whole_unique}
use Rattle.arithmetic_floats.specs.Float.{magnitude, half_up, round_away}
use Rattle.arithmetic_floats.specs.Root.{count}
use Rattle.arithmetic_floats.proofs.Patterns.{to_bits_of, twice_hid}
use Rattle.arithmetic_floats.proofs.Reading.{of_bits_is}
use Rattle.arithmetic_floats.proofs.Counts.{Counted, counted, count_value, spaced}
use Rattle.arithmetic_floats.proofs.Zero.{zero_exp}
use Rattle.arithmetic_floats.proofs.Halves.{half_scale}

-- ---- up to 2 ^ prec a whole number is a value of its own

pub of_int_exact : (f : Format) (n : ℕ) → n ≤ 2 ^ prec f → HasValue (of_int f (pos n)) false n 1
unfolding of_int
of_int_exact f n h = round_whole f false n h

-- ---- the sign goes through rounding

neg_odd : (d : ℕ) (s : Bool) (q k l : ℕ) → neg (odd d s q k l) ≡ odd d (not s) q k l
unfolding odd neg
neg_odd d s zero k l = refl
neg_odd d s (suc q) k l = refl

neg_units : (f : Format) (s : Bool) (q k : ℕ) → neg (units f s q k) ≡ units f (not s) q k
unfolding units neg
neg_units f s q k = go (ltb (q * 2 ^ k) (2 ^ (low f + suc (emax f))))
  where
    go : (b : Bool) → neg (cond b (odd (suc (prec f)) s q k (low f)) (inf s)) ≡ cond b (odd (suc (prec f)) (not s) q k (low f)) (inf (not s))
    go true = neg_odd (suc (prec f)) s q k (low f)
    go false = refl

pub neg_round : (f : Format) (s : Bool) (n d : ℕ) → neg (round f s n d) ≡ round f (not s) n d
unfolding round
neg_round f s n d = neg_units f s (nearest (n * 2 ^ low f / (d * 2 ^ (size (n * 2 ^ low f / d) - prec f))) (compare (n * 2 ^ low f % (d * 2 ^ (size (n * 2 ^ low f / d) - prec f)) * 2) (d * 2 ^ (size (n * 2 ^ low f / d) - prec f)))) (size (n * 2 ^ low f / d) - prec f)

-- ---- the sign is the top bit

abbrev Minus : Float → Type 0
Minus nan = Unit
Minus (inf s) = T s
Minus (fin s m e) = T s

minus_odd : (d q k l : ℕ) → Minus (odd d true q k l)
unfolding odd
minus_odd d zero k l = tt
minus_odd d (suc q) k l = tt

minus_fields : (f : Format) (x t : ℕ) → Minus (of_fields f true x t)
unfolding of_fields
minus_fields f zero t = minus_odd (prec f) t 0 (low f)
minus_fields f (suc x) t = go (eqb (suc x) (ones f)) (eqb t 0)
  where
    go : (a b : Bool) → Minus (cond a (cond b (inf true) nan) (odd (prec f) true (hid f + t) x (low f)))
    go true true = tt
    go true false = tt
    go false b = minus_odd (prec f) (hid f + t) x (low f)

pub plus_bits : (f : Format) (m : ℕ) (e : ℤ) → T (fits f (fin false m e)) → to_bits f (fin false m e) < top f
plus_bits f m e h = lt_of_not-le (λ (g : top f ≤ to_bits f (fin false m e)).
    let b = to_bits f (fin false m e) in
    subst Minus (ap (λ (s : Bool). of_fields f s (b % top f / hid f) (b % hid f)) (sym (is_true (leb (top f) b) (le→leb (top f) b g))) ∙ sym (of_bits_is f b) ∙ of_bits-to_bits f (fin false m e) h) (minus_fields f (b % top f / hid f) (b % hid f)))

minus_bits : (f : Format) (m : ℕ) (e : ℤ) → top f ≤ to_bits f (fin true m e)
unfolding to_bits
minus_bits f m e = le_trans (le-add_right (top f) ((size (m * up e * 2 ^ low f / down e) - prec f) * hid f + m * up e * 2 ^ low f / down e / 2 ^ (size (m * up e * 2 ^ low f / down e) - prec f))) (le_of_eq (sym (add_assoc (top f) ((size (m * up e * 2 ^ low f / down e) - prec f) * hid f) (m * up e * 2 ^ low f / down e / 2 ^ (size (m * up e * 2 ^ low f / down e) - prec f)))))

-- ---- a large value is whole

module _ (f : Format) (s : Bool) (m : ℕ) (e : ℤ) (held : T (fits f (fin false (suc m) e))) (large : (low f + 1) * hid f ≤ to_bits f (fin false (suc m) e)) where
  abbrev y : Float
  y = fin false (suc m) e

  abbrev n : ℕ
  n = count f y

  c : Counted f n
  c = counted f y held

  value : HasValue y false n (2 ^ low f)
  value = count_value f y held (lt→ltb 0 (suc m) (zero-lt-suc m))

  k_ge : low f ≤ size n - prec f
  k_ge =
      enough (low f) (size n - prec f)
      (lt_of_mul-lt-mul_right (hid f)
      (lt_of_le_of_lt large (lt_of_le_of_lt (le_of_eq (to_bits_of f y n value)) (sum ((size n - prec f) * hid f) (n / 2 ^ (size n - prec f)) (kept-lt (prec f) n) (add-mul (size n - prec f) 2 (hid f))))))
    where
      enough : (l k : ℕ) → l + 1 < k + 2 → l ≤ k
      enough l k h = omega arith

      sum : (a r : ℕ) → r < 2 ^ prec f → (size n - prec f + 2) * hid f ≡ a + 2 * hid f → a + r < (size n - prec f + 2) * hid f
      sum a r h x = omega (arith, twice_hid f)

  n_ge : 2 ^ (prec f - 1 + low f) ≤ n
  n_ge = size_reaches n (prec f - 1 + low f) (longer (size n) (prec f) (emax f) (two f) (reach f) k_ge)
    where
      longer : (z p e : ℕ) → 2 ≤ p → p ≤ suc e → e + p - 2 ≤ z - p → p - 1 + (e + p - 2) < z
      longer z p e a b h = omega arith

  whole : (w : ℕ) × (n ≡ w * 2 ^ low f)
  whole = go (spaced (prec f) n c.m c.j (low f) (pos_prec (prec f) (two f)) c.is c.m_lt)
    where
      pos_prec : (p : ℕ) → 2 ≤ p → 0 < p
      pos_prec p h = omega arith

      go : ((w : ℕ) × (n ≡ w * 2 ^ low f)) ⊎ (n < 2 ^ (prec f - 1 + low f)) → (w : ℕ) × (n ≡ w * 2 ^ low f)
      go (inl x) = x
      go (inr x) = absurd (not-le_of_lt x n_ge)

  abbrev w : ℕ
  w = whole.0

  ratio : suc m * up e * 1 ≡ w * down e
  ratio =
      mul-one (suc m * up e)
      ∙ eq_of_mul-eq-mul_right (2 ^ low f) (pow_pos (low f)) (suc m * up e) (w * down e) (value.1 ∙ ap (λ (x : ℕ). x * down e) whole.1 ∙ mul_right_comm w (2 ^ low f) (down e))

  half : half_up (fin s (suc m) e) ≡ w
  half = half_scale (suc m * up e) (down e) w 1 (down_pos e) (zero-lt-suc 0) ratio ∙ cut w
    where
      cut : (w : ℕ) → (2 * w + 1) / (2 * 1) ≡ w
      cut w = omega arith

  any_sign : T (fits f (fin s (suc m) e))
  unfolding fits
  any_sign = held

  large_whole : fin s (suc m) e ≡ round f s (half_up (fin s (suc m) e)) 1
  large_whole =
      whole_unique f (fin s (suc m) e) (round f s w 1) s w any_sign (round-fits f s w 1) (refl, ratio)
      (round_exact f s w 1 c.m c.j (zero-lt-suc 0) c.m_lt (subst (λ (x : ℕ). x < 2 ^ (low f + suc (emax f))) c.is c.n_lt) (sym whole.1 ∙ c.is ∙ sym (mul-one (c.m * 2 ^ c.j))))
      ∙ ap (λ (x : ℕ). round f s x 1) (sym half)

-- ---- `round_away`

-- the infinity's bits, and those of a zero
inf_large : (f : Format) → (low f + 1) * hid f ≤ to_bits f (inf false)
unfolding to_bits
inf_large f = le_trans (mul-le-mul_right (hid f) (far (prec f) (emax f) (two f) (reach f))) (le_of_eq (sym (native.Mathlib.Nat.zero-add (ones f * hid f))))
  where
    far : (p e : ℕ) → 2 ≤ p → p ≤ suc e → e + p - 2 + 1 ≤ 2 * e + 1
    far p e a b = omega arith

zero_small : (f : Format) (e : ℤ) → to_bits f (fin false 0 e) ≡ 0
unfolding to_bits
zero_small f e =
    ap (λ (n : ℕ). 0 + (size n - prec f) * hid f + n / 2 ^ (size n - prec f)) none
    ∙ ap (λ (z : ℕ). 0 + (z - prec f) * hid f + 0 / 2 ^ (z - prec f)) empty
    ∙ ap (λ (z : ℕ). 0 + z * hid f + 0 / 2 ^ z) (native.Mathlib.Nat.zero-sub (prec f))
    ∙ ap (λ (z : ℕ). 0 + z + 0 / 1) (zero-mul (hid f))
  where
    none : 0 * up e * 2 ^ low f / down e ≡ 0
    none = ap (λ (x : ℕ). x * 2 ^ low f / down e) (zero-mul (up e)) ∙ ap (λ (x : ℕ). x / down e) (zero-mul (2 ^ low f)) ∙ native.Mathlib.Nat.zero-div (down e)

    empty : size 0 ≡ 0
    empty = bottom (lib.Ieee.Digits.size-le 0 0 (zero-lt-suc 0))
      where
        bottom : {n : ℕ} → n ≤ 0 → n ≡ 0
        bottom h = omega arith

module _ (f : Format) (x : Float) (held : T (fits f x)) (number : T (not (is_nan x))) where
  pub round_large : (low f + 1) * hid f ≤ to_bits f (magnitude x) → x ≡ round_away f x
  unfolding magnitude round_away is_nan fits
  round_large h = go x held number h
    where
      empty : (n : ℕ) → n ≡ 0 → (low f + 1) * hid f ≤ n → ⊥
      empty n z h = not-le_of_lt (native.Mathlib.Nat.mul-pos (past (low f)) (pow_pos (prec f - 1))) (le_trans h (le_of_eq z))
        where
          past : (l : ℕ) → 0 < l + 1
          past l = omega arith

      go : (x : Float) → T (fits f x) → T (not (is_nan x)) → (low f + 1) * hid f ≤ to_bits f (magnitude x) → x ≡ round_away f x
      go nan a b h = refl
      go (inf s) a b h = refl
      go (fin s zero e) a b h = absurd (empty (to_bits f (fin false 0 (pos 0))) (zero_small f (pos 0)) h)
      go (fin s (suc m) e) a b h = large_whole f s m e a h

  module _ (small : to_bits f (magnitude x) < (low f + 1) * hid f) where
    pub round_plus : to_bits f x < top f → round f false (half_up (magnitude x)) 1 ≡ round_away f x
    unfolding magnitude round_away is_nan fits
    round_plus h = go x held number small h
      where
        go : (x : Float) → T (fits f x) → T (not (is_nan x)) → to_bits f (magnitude x) < (low f + 1) * hid f → to_bits f x < top f → round f false (half_up (magnitude x)) 1 ≡ round_away f x
        go nan a b l h = absurd b
        go (inf s) a b l h = absurd (not-le_of_lt l (inf_large f))
        go (fin true m e) a b l h = absurd (not-le_of_lt h (minus_bits f m e))
        go (fin false zero e) a b l h = ap (λ (d : ℤ). round f false (half_up (fin false 0 d)) 1) (sym (zero_exp f false e a))
        go (fin false (suc m) e) a b l h = refl

    pub round_minus : top f ≤ to_bits f x → neg (round f false (half_up (magnitude x)) 1) ≡ round_away f x
    unfolding magnitude round_away is_nan fits
    round_minus h = go x held number small h
      where
        go : (x : Float) → T (fits f x) → T (not (is_nan x)) → to_bits f (magnitude x) < (low f + 1) * hid f → top f ≤ to_bits f x → neg (round f false (half_up (magnitude x)) 1) ≡ round_away f x
        go nan a b l h = absurd b
        go (inf s) a b l h = absurd (not-le_of_lt l (inf_large f))
        go (fin true zero e) a b l h = neg_round f false (half_up (fin false 0 (pos 0))) 1 ∙ ap (λ (d : ℤ). round f true (half_up (fin true 0 d)) 1) (sym (zero_exp f true e a))
        go (fin true (suc m) e) a b l h = neg_round f false (half_up (fin false (suc m) e)) 1
        go (fin false m e) a b l h = absurd (not-le_of_lt (plus_bits f m e a) h)

-- ---- what the test `x != x` says

pub equals_itself : (x : Float) → (T (ne x x) → ⊥) → T (not (is_nan x))
unfolding ne eq is_nan
equals_itself nan h = h tt
equals_itself (inf s) h = tt
equals_itself (fin s m e) h = tt
