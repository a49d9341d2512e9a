-- `sqrt_of`, by the tests that a program makes on a value and on its bits, over the format. Assumes nothing.
use Rattle.std.proofs.Common.{◌≡◌, ℕ, zero, suc, ◌+◌, ◌-◌, ◌*◌, ◌/◌, ◌%◌, ◌^◌, ◌<◌, ◌≤◌, Bool, true, false, not, ◌&&◌, ◌||◌, T, eqb, ◌⊎◌, ℤ, sym, refl, ap, ◌∙◌, subst, inl, inr, le_trans, le_of_eq, lt_of_lt_of_le, le_of_lt, lt_irrefl, mod-eq_of_lt, zero-lt-suc, div-lt_iff_lt-mul, eq-zero-or-pos, add_comm, mul-pos, one-mul, le-div_iff_mul-le, zero-mul, le-add_left, eqb→eq, lt→ltb, pow_pos}
use mathlib.Core.Bool.{beq}
use native.Mathlib.Nat.{mod-le}
use lib.Ieee.{Float, nan, inf, fin, Format, prec, low, up, down, odd, fits, is_nan, nan_bits, top, hid, ones, of_bits, to_bits, lt, eq}
use lib.Arith.{le→nltb}
use lib.Ieee.Bits.{of_bits-to_bits, nan_bits_above}
use lib.Ieee.Exact.{HasValue, odd_sign}
use lib.Ieee.Fits.{up_pos, and_i, and_l, eq→eqb}
use Rattle.arithmetic_floats.specs.Float.{+zero}
use Rattle.arithmetic_floats.specs.Root.{sqrt_units, sqrt_of}
use Rattle.arithmetic_floats.proofs.Order.{or_right}
use Rattle.arithmetic_floats.proofs.Reading.{of_bits_low, of_bits_mid, of_bits_top, sqrt_of_of}

pub above_no_nan : (x : Float) → T (lt +zero x) → T (not (is_nan x))
unfolding lt is_nan
above_no_nan nan p = p
above_no_nan (inf s) p = tt
above_no_nan (fin s m e) p = tt

-- a pattern below the infinity's is no NaN's
pub low_no_nan : (f : Format) (n : ℕ) → n < ones f * hid f → T (not (nan_bits f n))
low_no_nan f n h = subst (λ (b : Bool). T (not b)) (sym (nan_bits_above f n)) (le→nltb (ones f * hid f) (n % top f) (le_trans (mod-le n (top f)) (le_of_lt h)))

-- ---- above zero, by the bits

module _ (f : Format) (x : Float) (held : T (fits f x)) (above : T (lt +zero x)) where
  back : of_bits f (to_bits f x) ≡ x
  back = of_bits-to_bits f x held

  hid_pos : 0 < hid f
  hid_pos = pow_pos (prec f - 1)

  -- subnormal
  module _ (z : to_bits f x / hid f ≡ 0) where
    small : to_bits f x < hid f
    small = subst (λ (y : ℕ). to_bits f x < y) (one-mul (hid f)) ((div-lt_iff_lt-mul hid_pos).0 (subst (λ (y : ℕ). y < 1) (sym z) (zero-lt-suc 0)))

    is_low : x ≡ odd (prec f) false (to_bits f x % hid f) 0 (low f)
    is_low = sym back ∙ of_bits_low f (to_bits f x) small ∙ ap (λ (b : ℕ). odd (prec f) false b 0 (low f)) (sym (mod-eq_of_lt small))

    none : T (lt +zero (odd (prec f) false 0 0 (low f))) → ⊥
    unfolding lt odd
    none t = t

    pub digits_pos : 0 < to_bits f x % hid f
    digits_pos = go (eq-zero-or-pos (to_bits f x % hid f))
      where
        go : (to_bits f x % hid f ≡ 0) ⊎ (0 < to_bits f x % hid f) → 0 < to_bits f x % hid f
        go (inl e) = absurd (none (subst (λ (v : Float). T (lt +zero v)) (is_low ∙ ap (λ (b : ℕ). odd (prec f) false b 0 (low f)) e) above))
        go (inr p) = p

    pub value_low : HasValue x false (to_bits f x % hid f * 2 ^ 0) (2 ^ low f)
    value_low = subst (λ (v : Float). HasValue v false (to_bits f x % hid f * 2 ^ 0) (2 ^ low f)) (sym is_low) (odd_sign (prec f) false (to_bits f x % hid f) 0 (low f))

    pub sqrt_low : sqrt_of f x ≡ sqrt_units f (to_bits f x % hid f * 2 ^ 0)
    sqrt_low = sqrt_of_of f x (to_bits f x % hid f * 2 ^ 0) (mul-pos digits_pos (pow_pos 0)) value_low

  -- normal
  module _ (p : 0 < to_bits f x / hid f) (l : to_bits f x / hid f < ones f) where
    abbrev b : ℕ
    b = to_bits f x

    pub value_mid : HasValue x false ((b % hid f + hid f) * 2 ^ (b / hid f - 1)) (2 ^ low f)
    value_mid =
        let is : x ≡ odd (prec f) false (hid f + b % hid f) (b / hid f - 1) (low f) =
        sym back ∙ of_bits_mid f b (le_trans (le_of_eq (sym (one-mul (hid f)))) ((le-div_iff_mul-le hid_pos).0 p)) ((div-lt_iff_lt-mul hid_pos).0 l) in
        subst (λ (q : ℕ). HasValue x false (q * 2 ^ (b / hid f - 1)) (2 ^ low f)) (add_comm (hid f) (b % hid f))
        (subst (λ (v : Float). HasValue v false ((hid f + b % hid f) * 2 ^ (b / hid f - 1)) (2 ^ low f)) (sym is) (odd_sign (prec f) false (hid f + b % hid f) (b / hid f - 1) (low f)))

    pub sqrt_mid : sqrt_of f x ≡ sqrt_units f ((b % hid f + hid f) * 2 ^ (b / hid f - 1))
    sqrt_mid = sqrt_of_of f x ((b % hid f + hid f) * 2 ^ (b / hid f - 1)) (mul-pos (lt_of_lt_of_le hid_pos (le-add_left (hid f) (b % hid f))) (pow_pos (b / hid f - 1))) value_mid

  -- the infinity
  pub is_infinity : ones f ≤ to_bits f x / hid f → x ≡ inf false
  is_infinity l = sym back ∙ of_bits_top f (to_bits f x) ((le-div_iff_mul-le hid_pos).0 l) (subst (λ (v : Float). T (lt +zero v)) (sym back) above)

  pub sqrt_top : ones f ≤ to_bits f x / hid f → x ≡ sqrt_of f x
  unfolding sqrt_of
  sqrt_top l = is_infinity l ∙ ap (sqrt_of f) (sym (is_infinity l))

-- ---- not above zero

nothing : (e : ℤ) (c : ℕ) → 0 * up e * c ≡ 0
nothing e c = ap (λ (x : ℕ). x * c) (zero-mul (up e)) ∙ zero-mul c

pub some : (m : ℕ) (e : ℤ) (c : ℕ) → 0 < c → 0 < suc m * up e * c
some m e c p = mul-pos (mul-pos (zero-lt-suc m) (up_pos e)) p

pub sqrt_zero : (f : Format) (x : Float) → T (eq x +zero) → x ≡ sqrt_of f x
unfolding sqrt_of eq
sqrt_zero f nan h = absurd h
sqrt_zero f (inf s) h = absurd h
sqrt_zero f (fin s zero e) h = refl
sqrt_zero f (fin s (suc m) e) h = absurd (lt_irrefl 0 (subst (λ (a : ℕ). 0 < a) (eqb→eq (suc m * up e * 1) (0 * 1 * down e) (and_l (eqb (suc m * up e * 1) (0 * 1 * down e)) (beq s false || eqb (suc m * up e * 1) 0) h) ∙ zero-mul (down e)) (some m e 1 (zero-lt-suc 0))))

-- a zero of either sign equals +0
pub zero_equals : (s : Bool) (e : ℤ) → T (eq (fin s 0 e) +zero)
unfolding eq
zero_equals s e = both s (0 * up e * 1) (0 * 1 * down e) (nothing e 1) (zero-mul (down e))
  where
    both : (s : Bool) (a b : ℕ) → a ≡ 0 → b ≡ 0 → T (eqb a b && (beq s false || eqb a 0))
    both s a b x y = and_i (eqb a b) (beq s false || eqb a 0) (eq→eqb (x ∙ sym y)) (or_right (beq s false) (eqb a 0) (eq→eqb x))

pub sqrt_below : (f : Format) (x : Float) → (T (lt +zero x) → ⊥) → (T (eq x +zero) → ⊥) → sqrt_of f x ≡ nan
unfolding sqrt_of eq lt
sqrt_below f nan h k = refl
sqrt_below f (inf true) h k = refl
sqrt_below f (inf false) h k = absurd (h tt)
sqrt_below f (fin s zero e) h k = absurd (k (zero_equals s e))
sqrt_below f (fin true (suc m) e) h k = refl
sqrt_below f (fin false (suc m) e) h k = absurd (h (lt→ltb (0 * 1 * down e) (suc m * up e * 1) (subst (λ (a : ℕ). a < suc m * up e * 1) (sym (zero-mul (down e))) (some m e 1 (zero-lt-suc 0)))))
