-- A magnitude has the low bits of its number, all but the sign's; over the format. Assumes nothing.
use Rattle.std.proofs.Common.{◌≡◌, ℕ, zero, suc, ◌+◌, ◌-◌, ◌*◌, ◌/◌, ◌%◌, ◌^◌, ◌<◌, Bool, true, false, not, T, ℤ, pos, sym, refl, ap, ◌∙◌, subst, mod-eq_of_lt, arith}
use native.Mathlib.Nat.{add-mod_left}
use lib.Ieee.{Float, nan, inf, fin, Format, binary32, binary64, prec, low, up, down, size, is_nan, nan_bits, ne, fits, neg, hid, top, to_bits, of_bits}
use lib.Ieee.Fits.{neg-fits}
use lib.Ieee.Bits.{of_bits-to_bits, nan_bits_is}
use lib.Ieee.Compare.{differs_from_itself}
use denote.Floats.{passes}
use Rattle.arithmetic_floats.specs.Float.{magnitude, width, low_bits, LowBits}
use Rattle.arithmetic_floats.proofs.Zero.{Fits, zero_exp}
use Rattle.arithmetic_floats.proofs.Signs.{magnitude_number}
use Rattle.arithmetic_floats.proofs.Whole.{plus_bits}

-- the weight of the sign's bit
sign_weight : (f : Format) → top f ≡ 2 ^ (width f - 1)
sign_weight binary32 = refl
sign_weight binary64 = refl

sum_first : (t k q : ℕ) → t + k + q ≡ t + (0 + k + q)
sum_first t k q = omega arith

-- a negative number's bits are the sign's and those of its opposite
minus_is : (f : Format) (m : ℕ) (e : ℤ) → to_bits f (fin true m e) ≡ top f + to_bits f (fin false m e)
unfolding to_bits
minus_is f m e =
    let n = m * up e * 2 ^ low f / down e in
    let k = size n - prec f in
    sum_first (top f) (k * hid f) (n / 2 ^ k)

drops : (t b v : ℕ) → b < t → v ≡ t + b → b ≡ v % t
drops t b v h e = sym (ap (λ (x : ℕ). x % t) e ∙ add-mod_left t b ∙ mod-eq_of_lt h)

finite_low : (f : Format) (s : Bool) (m : ℕ) (e : ℤ) → Fits f (fin s m e) → to_bits f (fin false m e) ≡ to_bits f (fin s m e) % top f
unfolding neg
finite_low f false m e t = sym (mod-eq_of_lt (plus_bits f m e t))
finite_low f true m e t = drops (top f) (to_bits f (fin false m e)) (to_bits f (fin true m e)) (plus_bits f m e (neg-fits f (fin true m e) t)) (minus_is f m e)

infinite_low : (f : Format) (s : Bool) → to_bits f (inf false) ≡ to_bits f (inf s) % top f
unfolding to_bits
infinite_low binary32 false = refl
infinite_low binary32 true = refl
infinite_low binary64 false = refl
infinite_low binary64 true = refl

top_low : (f : Format) (x : Float) → Fits f x → T (not (is_nan x)) → to_bits f (magnitude x) ≡ to_bits f x % top f
unfolding magnitude is_nan
top_low f nan t h = absurd h
top_low f (inf s) t h = infinite_low f s
top_low f (fin s zero e) t h =
    subst (λ (e : ℤ). to_bits f (fin false 0 (pos 0)) ≡ to_bits f (fin s 0 e) % top f) (sym (zero_exp f s e t))
    (finite_low f s 0 (pos 0) (subst (λ (e : ℤ). Fits f (fin s 0 e)) (zero_exp f s e t) t))
top_low f (fin s (suc m) e) t h = finite_low f s (suc m) e t

-- what the second clause of `magnitude` says, in either width
pub magnitude_low : (f : Format) (x : Float) → Fits f x → LowBits f x (magnitude x)
unfolding magnitude
magnitude_low f x t = record {
  number = λ h. top_low f x t h ∙ ap (λ (k : ℕ). to_bits f x % k) (sign_weight f);
  none = λ n. ap magnitude n;
}

magnitude_fits : (f : Format) (x : Float) → Fits f x → Fits f (magnitude x)
unfolding magnitude fits
magnitude_fits f nan t = tt
magnitude_fits f (inf s) t = tt
magnitude_fits f (fin s zero e) t = tt
magnitude_fits f (fin s (suc m) e) t = t

-- so the number with the low bits is the magnitude
of_low_bits : (f : Format) (x : Float) → Fits f x → T (not (is_nan x)) → of_bits f (low_bits f x) ≡ magnitude x
of_low_bits f x t h = ap (of_bits f) (sym ((magnitude_low f x t).number h)) ∙ of_bits-to_bits f (magnitude x) (magnitude_fits f x t)

pub low_bits_no_nan : (f : Format) (x : Float) → Fits f x → T (not (is_nan x)) → T (not (nan_bits f (low_bits f x)))
low_bits_no_nan f x t h = subst (λ (b : Bool). T (not b)) (sym (nan_bits_is f (low_bits f x) ∙ ap is_nan (of_low_bits f x t h))) (magnitude_number x h)

-- ---- both clauses of a program that returns r

clauses : (f : Format) (x r : Float) → Fits f x → r ≡ magnitude x → (r ≡ magnitude x) × LowBits f x r
clauses f x r t e = (e, subst (LowBits f x) (sym e) (magnitude_low f x t))

-- x itself where it differs from itself
pub nan_kept : (f : Format) (x : Float) → Fits f x → ne x x ≡ true → (x ≡ magnitude x) × LowBits f x x
unfolding magnitude
nan_kept f x t h = let n : x ≡ nan = differs_from_itself x (passes (ne x x) h) in clauses f x x t (n ∙ sym (ap magnitude n))

-- and otherwise the number with its low bits
pub low_bits_kept : (f : Format) (x : Float) → Fits f x → T (not (is_nan x)) → (of_bits f (low_bits f x) ≡ magnitude x) × LowBits f x (of_bits f (low_bits f x))
low_bits_kept f x t h = clauses f x (of_bits f (low_bits f x)) t (of_low_bits f x t h)
