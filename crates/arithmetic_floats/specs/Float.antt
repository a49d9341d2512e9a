-- Floats one by one: constants, magnitude, halvings, powers of two, rounding to a whole number. Definitions only.
-- There is one NaN here: of a NaN neither the sign nor the payload is decided. Where a contract names a NaN it says that a NaN stands in that place, and no more.
-- Letters: f is a format; a float is its sign s, its significand m and its exponent e; k counts halvings or is a power's exponent.
use Rattle.std.specs.Prelude.{◌≡◌, ℕ, zero, suc, ◌+◌, ◌-◌, ◌*◌, ◌/◌, ◌%◌, ◌^◌, ◌<◌, ◌≤◌, Bool, false, cond, not, T, ℤ, pos, negsuc, is_nan, to_bits, Float}
use Rattle.std.specs.Float.{nan, inf, fin, Format, binary32, binary64}
use Rattle.std.specs.Float.Ieee.{prec, up, down, minus, size, round, sub, lt, to_signed}
use Rattle.std.specs.Float.Ieee.Positive.{num, den}
use Rattle.std.specs.Float.Ieee.Scale.{finite}

-- +0, 1, a half and plus infinity
abbrev pub +zero : Float
+zero = fin false 0 (pos 0)

abbrev pub one : Float
one = fin false 1 (pos 0)

abbrev pub half : Float
half = fin false 1 (negsuc 0)

abbrev pub +infinity : Float
+infinity = inf false

-- x is neither infinite nor NaN
abbrev pub Finite : Float → Type 0
Finite x = T (finite x)

-- the binary64 number x in the format f
unfoldable pub constant : Format → Float → Float
unfolding round
constant binary64 x = x
constant binary32 nan = nan
constant binary32 (inf s) = inf s
constant binary32 (fin s m e) = round binary32 s (m * up e) (down e)

-- the distance from 1 to the next number, 2 ^ (1 - prec): 2^-52 for binary64
abbrev pub epsilon : Format → Float
epsilon f = fin false 1 (negsuc (prec f - 2))

-- |x|: +0 for a zero of either sign, and NaN for NaN
unfoldable pub magnitude : Float → Float
magnitude nan = nan
magnitude (inf s) = inf false
magnitude (fin s zero e) = fin false zero (pos zero)
magnitude (fin s (suc m) e) = fin false (suc m) e

-- how many bits a number has
abbrev pub width : Format → ℕ
width binary32 = 32
width binary64 = 64

-- the bits of x but for the highest, which is the sign
abbrev pub low_bits : Format → Float → ℕ
low_bits f x = to_bits f x % 2 ^ (width f - 1)

-- r has the low bits of x, where x is a number, and is NaN where x is
pub record LowBits (f : Format) (x r : Float) : Type 0 where
  pub number : T (not (is_nan x)) → to_bits f r ≡ low_bits f x
  pub none : x ≡ nan → r ≡ nan

-- b where a < b, and a otherwise
unfoldable pub larger : Float → Float → Float
larger a b = cond (lt a b) b a

-- b where b < a, and a otherwise
unfoldable pub smaller : Float → Float → Float
smaller a b = cond (lt b a) b a

-- ---- powers of two

-- the least whole number that is not below the magnitude of x
abbrev pub ceiling : Float → ℕ
ceiling x = (num x + (den x - 1)) / den x

-- The least k with x at most 2 ^ k, for a finite x that is not negative: how many digits the number before x's ceiling has. `Least` says it by comparison.
unfoldable pub halvings : Float → ℕ
unfolding size
halvings x = size (ceiling x - 1)

-- k is the least number with n / d at most 2 ^ k
abbrev pub Least : ℕ → ℕ → ℕ → Type 0
Least n d k = (n ≤ 2 ^ k * d) × ((j : ℕ) → j < k → 2 ^ j * d < n)

-- 2 ^ k and 2 ^ -k
abbrev pub power_of_two : ℕ → Float
power_of_two k = fin false 1 (pos k)

abbrev pub inverse_power_of_two : ℕ → Float
inverse_power_of_two k = fin false 1 (minus 0 k)

-- ---- rounding to a whole number

-- the magnitude of x plus a half, without its fraction: the nearest whole number, a half going up
abbrev pub half_up : Float → ℕ
half_up x = (2 * num x + den x) / (2 * den x)

-- to the nearest whole number, a half away from zero. A number that rounds to 0 keeps its sign.
unfoldable pub round_away : Format → Float → Float
unfolding round
round_away f nan = nan
round_away f (inf s) = inf s
round_away f (fin s m e) = round f s (half_up (fin s m e)) 1

-- p is taken for a whole number: it is within `limit` of its rounding
unfoldable pub near_integer : Format → Float → Float → Bool
unfolding round_away sub lt magnitude
near_integer f limit p = lt (magnitude (sub f p (round_away f p))) limit

-- the whole number that it is taken for, held at the ends of 64 bits with a sign
unfoldable pub integer_of : Format → Float → ℤ
unfolding round_away to_signed
integer_of f p = to_signed 63 (round_away f p)
