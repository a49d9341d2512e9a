-- The value that a bit pattern stands for, over the format: below the infinity's pattern, and from there on. Assumes nothing.
use Rattle.std.proofs.Common.{◌≡◌, ℕ, zero, suc, ◌+◌, ◌-◌, ◌*◌, ◌/◌, ◌%◌, ◌^◌, ◌<◌, ◌≤◌, Bool, true, false, cond, not, T, eqb, leb, sym, refl, ap, ◌∙◌, subst, le_trans, le_of_eq, lt_of_lt_of_le, le_of_suc-le-suc, le-add_right, lt_irrefl, mul-le-mul_right, mod-eq_of_lt, suc-mul, mul_comm, div-lt_iff_lt-mul, le_antisymm, mul-pos, le-div_iff_mul-le, zero-mul, not-le_of_lt, mul-div_cancel, arith, eqb→eq, leb→le, pow_pos}
use native.Mathlib.Nat.{div-eq_of_lt}
use lib.Dec.{nleb→lt, not_T}
use lib.Ieee.{Float, nan, inf, fin, Format, prec, emax, low, up, down, odd, hid, ones, top, of_fields, of_bits, lt}
use lib.Ieee.Bits.{is_false, cond_no}
use lib.Ieee.Exact.{HasValue}
use lib.Ieee.Fits.{down_pos, eq→eqb}
use Rattle.arithmetic_floats.specs.Float.{+zero}
use Rattle.arithmetic_floats.specs.Root.{sqrt_units, sqrt_of}

-- ---- below the sign's bit

pub of_bits_is : (f : Format) (b : ℕ) → of_bits f b ≡ of_fields f (leb (top f) b) (b % top f / hid f) (b % hid f)
unfolding of_bits
of_bits_is f b = refl

plain : (f : Format) (b : ℕ) → b < top f → of_bits f b ≡ of_fields f false (b / hid f) (b % hid f)
plain f b h =
    of_bits_is f b
    ∙ ap (λ (s : Bool). of_fields f s (b % top f / hid f) (b % hid f)) (is_false (leb (top f) b) (not_T (leb (top f) b) (λ (t : T (leb (top f) b)). not-le_of_lt h (leb→le (top f) b t))))
    ∙ ap (λ (x : ℕ). of_fields f false (x / hid f) (b % hid f)) (mod-eq_of_lt h)

ones_below : (f : Format) → ones f * hid f ≤ top f
ones_below f = le_trans (le-add_right (ones f * hid f) (hid f)) (le_of_eq (sym (suc-mul (ones f) (hid f)) ∙ mul_comm (suc (ones f)) (hid f)))

hid_below : (f : Format) → hid f ≤ ones f * hid f
hid_below f = le_trans (le_of_eq (sym (native.Mathlib.Nat.one-mul (hid f)))) (mul-le-mul_right (hid f) (some (emax f)))
  where
    some : (e : ℕ) → 1 ≤ 2 * e + 1
    some e = omega arith

-- ---- subnormal, normal

pub of_bits_low : (f : Format) (b : ℕ) → b < hid f → of_bits f b ≡ odd (prec f) false b 0 (low f)
unfolding of_fields
of_bits_low f b h =
    plain f b (lt_of_lt_of_le h (le_trans (hid_below f) (ones_below f)))
    ∙ ap (λ (x : ℕ). of_fields f false x (b % hid f)) (div-eq_of_lt h)
    ∙ ap (λ (t : ℕ). odd (prec f) false t 0 (low f)) (mod-eq_of_lt h)

fields_mid : (f : Format) (x t : ℕ) → 0 < x → x < ones f → of_fields f false x t ≡ odd (prec f) false (hid f + t) (x - 1) (low f)
unfolding of_fields
fields_mid f zero t p h = absurd (lt_irrefl 0 p)
fields_mid f (suc x) t p h =
    cond_no (eqb (suc x) (ones f)) (cond (eqb t 0) (inf false) nan) (odd (prec f) false (hid f + t) x (low f)) (not_T (eqb (suc x) (ones f)) (λ (u : T (eqb (suc x) (ones f))). differ (ones f) h (eqb→eq (suc x) (ones f) u)))
    ∙ ap (λ (k : ℕ). odd (prec f) false (hid f + t) k (low f)) (sym less)
  where
    differ : (o : ℕ) → suc x < o → suc x ≡ o → ⊥
    differ o a b = omega arith

    less : suc x - 1 ≡ x
    less = omega arith

pub of_bits_mid : (f : Format) (b : ℕ) → hid f ≤ b → b < ones f * hid f → of_bits f b ≡ odd (prec f) false (hid f + b % hid f) (b / hid f - 1) (low f)
of_bits_mid f b lo hi =
    plain f b (lt_of_lt_of_le hi (ones_below f))
    ∙ fields_mid f (b / hid f) (b % hid f) ((le-div_iff_mul-le (pow_pos (prec f - 1))).1 (le_trans (le_of_eq (native.Mathlib.Nat.one-mul (hid f))) lo)) ((div-lt_iff_lt-mul (pow_pos (prec f - 1))).1 hi)

-- ---- from the infinity's pattern on: the one that is above zero is the infinity

below_odd : (d q k l : ℕ) → T (lt +zero (odd d true q k l)) → ⊥
unfolding odd lt
below_odd d zero k l h = h
below_odd d (suc q) k l h = h

below_zero : (f : Format) (x t : ℕ) → T (lt +zero (of_fields f true x t)) → ⊥
unfolding of_fields lt
below_zero f zero t h = below_odd (prec f) t 0 (low f) h
below_zero f (suc x) t h = go (eqb (suc x) (ones f)) (eqb t 0) h
  where
    go : (a b : Bool) → T (lt +zero (cond a (cond b (inf true) nan) (odd (prec f) true (hid f + t) x (low f)))) → ⊥
    go true true h = h
    go true false h = h
    go false b h = below_odd (prec f) (hid f + t) x (low f) h

fields_top : (f : Format) (x t : ℕ) → x ≡ ones f → T (lt +zero (of_fields f false x t)) → of_fields f false x t ≡ inf false
unfolding of_fields lt
fields_top f zero t e h = absurd (none (emax f) e)
  where
    none : (m : ℕ) → 0 ≡ 2 * m + 1 → ⊥
    none m z = omega arith
fields_top f (suc x) t e h = go (eqb (suc x) (ones f)) (eqb t 0) (eq→eqb e) h
  where
    go : (a b : Bool) → T a → T (lt +zero (cond a (cond b (inf false) nan) (odd (prec f) false (hid f + t) x (low f)))) → cond a (cond b (inf false) nan) (odd (prec f) false (hid f + t) x (low f)) ≡ inf false
    go true true u h = refl
    go true false u h = absurd h
    go false b u h = absurd u

pub of_bits_top : (f : Format) (b : ℕ) → ones f * hid f ≤ b → T (lt +zero (of_bits f b)) → of_bits f b ≡ inf false
of_bits_top f b lo p = go (leb (top f) b) refl
  where
    go : (s : Bool) → leb (top f) b ≡ s → of_bits f b ≡ inf false
    go true e = absurd (below_zero f (b % top f / hid f) (b % hid f) (subst (λ (v : Float). T (lt +zero v)) (of_bits_is f b ∙ ap (λ (s : Bool). of_fields f s (b % top f / hid f) (b % hid f)) e) p))
    go false e =
        let h : b < top f = nleb→lt (top f) b (subst (λ (s : Bool). T (not s)) (sym e) tt) in
        let x : b / hid f ≡ ones f = le_antisymm (le_of_suc-le-suc ((div-lt_iff_lt-mul (pow_pos (prec f - 1))).1 (subst (λ (y : ℕ). b < y) (mul_comm (hid f) (suc (ones f))) h))) ((le-div_iff_mul-le (pow_pos (prec f - 1))).1 lo) in
        plain f b h ∙ fields_top f (b / hid f) (b % hid f) x (subst (λ (v : Float). T (lt +zero v)) (plain f b h) p)

-- ---- `sqrt_of` of a value above zero, by its size in smallest values

pub sqrt_of_of : (f : Format) (x : Float) (a : ℕ) → 0 < a → HasValue x false a (2 ^ low f) → sqrt_of f x ≡ sqrt_units f a
unfolding sqrt_of
sqrt_of_of f nan a p h = absurd h
sqrt_of_of f (inf t) a p h = absurd h
sqrt_of_of f (fin t zero e) a p h = absurd (lt_irrefl 0 (subst (λ (x : ℕ). 0 < x) (sym h.1 ∙ ap (λ (x : ℕ). x * 2 ^ low f) (zero-mul (up e)) ∙ zero-mul (2 ^ low f)) (mul-pos p (down_pos e))))
sqrt_of_of f (fin t (suc m) e) a p h =
    ap (λ (s : Bool). cond s nan (sqrt_units f (suc m * up e * 2 ^ low f / down e))) h.0
    ∙ ap (sqrt_units f) (ap (λ (x : ℕ). x / down e) h.1 ∙ mul-div_cancel a (down_pos e))
