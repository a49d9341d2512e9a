-- NaN and its bit patterns, over the format. Assumes nothing.
use Rattle.std.proofs.Common.{◌≡◌, ℕ, ◌+◌, ◌*◌, ◌/◌, ◌%◌, ◌<◌, ◌≤◌, Bool, true, not, T, sym, refl, ◌∙◌, subst, le-ltb, lt-ltb}
use lib.Ieee.{Float, nan, inf, fin, Format, binary32, binary64, hid, ones, top, to_bits, of_bits, of_fields, odd, div, ne, is_nan, nan_bits}
use lib.Ieee.Bits.{nan_bits_is, nan_bits_above}
use lib.Ieee.Compare.{differs_from_itself}
use denote.Floats.{passes}

pub nan_bits_lem : (f : Format) (x : Float) → ne x x ≡ true → ones f * hid f + hid f / 2 ≡ to_bits f x
unfolding to_bits
nan_bits_lem f x h = rw (differs_from_itself x (passes (ne x x) h))

is_nan-nan : (x : Float) → is_nan x ≡ true → nan ≡ x
unfolding is_nan
is_nan-nan nan h = refl
is_nan-nan (inf s) h = absurd (subst T (sym h) tt)
is_nan-nan (fin s m e) h = absurd (subst T (sym h) tt)

zero_over_zero : (f : Format) → div f (of_bits f 0) (of_bits f 0) ≡ nan
unfolding div of_bits of_fields odd
zero_over_zero binary32 = refl
zero_over_zero binary64 = refl

-- a pattern above the infinity's, its sign left out, is a NaN's
pub nan_pattern : (f : Format) (u : ℕ) → ones f * hid f < u % top f → div f (of_bits f 0) (of_bits f 0) ≡ of_bits f u
nan_pattern f u h = zero_over_zero f ∙ is_nan-nan (of_bits f u) (sym (nan_bits_is f u) ∙ nan_bits_above f u ∙ lt-ltb (ones f * hid f) (u % top f) h)

pub no_nan_pattern : (f : Format) (u : ℕ) → u % top f ≤ ones f * hid f → T (not (nan_bits f u))
no_nan_pattern f u h = subst (λ (b : Bool). T (not b)) (sym (nan_bits_above f u ∙ le-ltb (ones f * hid f) (u % top f) h)) tt
