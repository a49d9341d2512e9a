-- Bit patterns and the numbers that they stand for, over the format: a pattern of a finite value that is not negative, read; a value with all its digits, written. Assumes nothing.
use Rattle.std.proofs.Common.{◌≡◌, ℕ, suc, ◌+◌, ◌-◌, ◌*◌, ◌/◌, ◌^◌, ◌<◌, ◌≤◌, Bool, true, false, cond, T, ltb, ◌⊎◌, sym, refl, ap, ◌∙◌, subst, inl, inr, le_trans, le_of_eq, le_refl, lt_of_le_of_lt, mul-le-mul_right, mul_assoc, suc-mul, mul_comm, eq-or-lt_of_le, pow-suc, zero-add, mul-div_cancel, arith, lt→ltb, pow_pos, pow-add, shl_lt}
use lib.Pow.{pow-lt}
use lib.Ieee.{Float, nan, inf, fin, Format, prec, emax, low, down, size, odd, units, fits, hid, top, of_bits, to_bits}
use lib.Ieee.Bits.{of_bits-to_bits}
use lib.Ieee.Exact.{HasValue, units_val}
use lib.Ieee.Fits.{two, down_pos, odd-fits}
use Rattle.arithmetic_floats.proofs.Rounding.{size_is}

-- ---- the bits of a value

pub to_bits_of : (f : Format) (x : Float) (a : ℕ) → HasValue x false a (2 ^ low f) → to_bits f x ≡ (size a - prec f) * hid f + a / 2 ^ (size a - prec f)
unfolding to_bits
to_bits_of f nan a h = absurd h
to_bits_of f (inf t) a h = absurd h
to_bits_of f (fin t m e) a h =
    ap (λ (n : ℕ). cond t (top f) 0 + (size n - prec f) * hid f + n / 2 ^ (size n - prec f)) (ap (λ (x : ℕ). x / down e) h.1 ∙ mul-div_cancel a (down_pos e))
    ∙ ap (λ (b : Bool). cond b (top f) 0 + (size a - prec f) * hid f + a / 2 ^ (size a - prec f)) h.0
    ∙ ap (λ (x : ℕ). x + a / 2 ^ (size a - prec f)) (zero-add ((size a - prec f) * hid f))

pub twice_hid : (f : Format) → 2 ^ prec f ≡ hid f * 2
twice_hid f = ap (λ (x : ℕ). 2 ^ x) (again (prec f) (two f)) ∙ pow-suc 2 (prec f - 1)
  where
    again : (p : ℕ) → 2 ≤ p → p ≡ suc (p - 1)
    again p h = omega arith

pub units_odd : (f : Format) (q k : ℕ) → q * 2 ^ k < 2 ^ (low f + suc (emax f)) → units f false q k ≡ odd (suc (prec f)) false q k (low f)
unfolding units
units_odd f q k h = go (ltb (q * 2 ^ k) (2 ^ (low f + suc (emax f)))) (lt→ltb (q * 2 ^ k) (2 ^ (low f + suc (emax f))) h)
  where
    go : (b : Bool) → T b → cond b (odd (suc (prec f)) false q k (low f)) (inf false) ≡ odd (suc (prec f)) false q k (low f)
    go true t = refl
    go false t = absurd t

module _ (f : Format) (q k : ℕ) (lo : hid f ≤ q) (hi : q ≤ 2 ^ prec f) (fine : q * 2 ^ k < 2 ^ (low f + suc (emax f))) where
  units_fits : T (fits f (units f false q k))
  units_fits =
      subst (λ (x : Float). T (fits f x)) (sym (units_odd f q k fine)) (odd-fits f (suc (prec f)) false q k (lt_of_le_of_lt hi (pow-lt (le_refl (suc (prec f))))) hi fine)

  full : q < 2 ^ prec f → to_bits f (units f false q k) ≡ k * hid f + q
  full l =
      let a = q * 2 ^ k in
      let ge : 2 ^ (prec f - 1 + k) ≤ a = le_trans (le_of_eq (pow-add 2 (prec f - 1) k)) (mul-le-mul_right (2 ^ k) lo) in
      let under : a < 2 ^ suc (prec f - 1 + k) = subst (λ (x : ℕ). a < 2 ^ x) (shape (prec f) (two f)) (shl_lt (prec f) k l) in
      let z : size a - prec f ≡ k = drops (size a) (prec f) (two f) (size_is a (prec f - 1 + k) ge under) in
      to_bits_of f (units f false q k) a (units_val f false q k fine)
      ∙ ap (λ (i : ℕ). i * hid f + a / 2 ^ i) z
      ∙ ap (λ (x : ℕ). k * hid f + x) (mul-div_cancel q (pow_pos k))
    where
      shape : (p : ℕ) → 2 ≤ p → p + k ≡ suc (p - 1 + k)
      shape p h = omega arith

      drops : (z p : ℕ) → 2 ≤ p → z ≡ suc (p - 1 + k) → z - p ≡ k
      drops z p h e = omega arith

  carried : q ≡ 2 ^ prec f → to_bits f (units f false q k) ≡ k * hid f + q
  carried e =
      let a = q * 2 ^ k in
      let is : a ≡ 2 ^ (prec f + k) = ap (λ (x : ℕ). x * 2 ^ k) e ∙ sym (pow-add 2 (prec f) k) in
      let z : size a - prec f ≡ suc k = drops (size a) (prec f) (size_is a (prec f + k) (le_of_eq (sym is)) (subst (λ (x : ℕ). x < 2 ^ suc (prec f + k)) (sym is) (pow-lt (le_refl (suc (prec f + k)))))) in
      let whole : a ≡ hid f * 2 ^ suc k = ap (λ (x : ℕ). x * 2 ^ k) (e ∙ twice_hid f) ∙ mul_assoc (hid f) 2 (2 ^ k) ∙ ap (λ (x : ℕ). hid f * x) (mul_comm 2 (2 ^ k) ∙ sym (pow-suc 2 k)) in
      to_bits_of f (units f false q k) a (units_val f false q k fine)
      ∙ ap (λ (i : ℕ). i * hid f + a / 2 ^ i) z
      ∙ ap (λ (x : ℕ). suc k * hid f + x) (ap (λ (x : ℕ). x / 2 ^ suc k) whole ∙ mul-div_cancel (hid f) (pow_pos (suc k)))
      ∙ last (suc k * hid f) (k * hid f) (hid f) (suc-mul k (hid f)) (e ∙ twice_hid f)
    where
      drops : (z p : ℕ) → z ≡ suc (p + k) → z - p ≡ suc k
      drops z p e = omega arith

      last : (a b c : ℕ) → a ≡ b + c → q ≡ c * 2 → a + c ≡ b + q
      last a b c x y = omega arith

  -- the pattern of q multiples of 2 ^ k smallest values, q having all the digits that the format keeps, or being the next power of two
  pub units_bits : to_bits f (units f false q k) ≡ k * hid f + q
  units_bits = go (eq-or-lt_of_le hi)
    where
      go : (q ≡ 2 ^ prec f) ⊎ (q < 2 ^ prec f) → to_bits f (units f false q k) ≡ k * hid f + q
      go (inl e) = carried e
      go (inr l) = full l

  pub bits_units : of_bits f (k * hid f + q) ≡ units f false q k
  bits_units = ap (of_bits f) (sym units_bits) ∙ of_bits-to_bits f (units f false q k) units_fits
