-- Roots, magnitudes and rounding at numbers, beside those of the starred lines: one table, one claim.
use Rattle.std.specs.Prelude.{ℕ, ◌≡◌, refl, true, List, [], ◌∷◌}
use Rattle.std.specs.Float.{Format, binary64}
use Rattle.std.specs.Float.Ieee.{of_bits, to_bits}
use Rattle.arithmetic_floats.specs.Float.{magnitude, low_bits, round_away}
use Rattle.arithmetic_floats.specs.Root.{sqrt_of}
use Rattle.samples.specs.Shown.{Line, hold}
use Rattle.samples.specs.Opened.{all}

-- by their bits
abbrev pub root : Format → ℕ → List ℕ
root f x = to_bits f (sqrt_of f (of_bits f x)) ∷ []

-- of the magnitude, and the low bits of the number itself
abbrev pub magnitude_and_low : Format → ℕ → List ℕ
magnitude_and_low f x = to_bits f (magnitude (of_bits f x)) ∷ low_bits f (of_bits f x) ∷ []

abbrev rounded : ℕ → List ℕ
rounded x = to_bits binary64 (round_away binary64 (of_bits binary64 x)) ∷ []

unfoldable pub table : List Line
table =
    -- the roots of 2, and of the smallest and the largest values
    (0x3ff6a09e667f3bcd ∷ [], root binary64 0x4000000000000000)
    ∷ (0x1e60000000000000 ∷ [], root binary64 1)
    ∷ (0x5fefffffffffffff ∷ [], root binary64 0x7fefffffffffffff)
    -- magnitudes: zeros, the smallest values, ones and infinities of both signs, and NaN
    ∷ (0 ∷ 0 ∷ [], magnitude_and_low binary64 0)
    ∷ (0 ∷ 0 ∷ [], magnitude_and_low binary64 0x8000000000000000)
    ∷ (1 ∷ 1 ∷ [], magnitude_and_low binary64 1)
    ∷ (1 ∷ 1 ∷ [], magnitude_and_low binary64 0x8000000000000001)
    ∷ (0x3ff0000000000000 ∷ 0x3ff0000000000000 ∷ [], magnitude_and_low binary64 0x3ff0000000000000)
    ∷ (0x3ff0000000000000 ∷ 0x3ff0000000000000 ∷ [], magnitude_and_low binary64 0xbff0000000000000)
    ∷ (0x7ff0000000000000 ∷ 0x7ff0000000000000 ∷ [], magnitude_and_low binary64 0x7ff0000000000000)
    ∷ (0x7ff0000000000000 ∷ 0x7ff0000000000000 ∷ [], magnitude_and_low binary64 0xfff0000000000000)
    ∷ (0x7ff8000000000000 ∷ 0x7ff8000000000000 ∷ [], magnitude_and_low binary64 0xfff8000000000001)
    -- rounding: -0.3, -2.5, 2.5, the largest value below 0.5, 0.5, the largest value with a fraction, 1e300
    ∷ (0x8000000000000000 ∷ [], rounded 0xbfd3333333333333)
    ∷ (0xc008000000000000 ∷ [], rounded 0xc004000000000000)
    ∷ (0x4008000000000000 ∷ [], rounded 0x4004000000000000)
    ∷ (0 ∷ [], rounded 0x3fdfffffffffffff)
    ∷ (0x3ff0000000000000 ∷ [], rounded 0x3fe0000000000000)
    ∷ (0x4330000000000000 ∷ [], rounded 0x432fffffffffffff)
    ∷ (0x7e37e43c8800759c ∷ [], rounded 0x7e37e43c8800759c)
    ∷ []

pub floats_hold : hold table ≡ true
unfolding table all
floats_hold = refl
