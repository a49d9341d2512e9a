-- The square root of a float, rounded to the nearest value of the format, a tie to the even one. Definitions only.
-- There are no real numbers here: a root is compared with a number by comparing squares of whole numbers.
use Rattle.std.specs.Prelude.{ℕ, zero, suc, ◌+◌, ◌-◌, ◌*◌, ◌/◌, ◌^◌, ◌<◌, ◌≤◌, false, cond, T, nat_le, pos, Float}
use Prim.Native.Nat.{compare}
use Rattle.std.specs.Float.{nan, inf, fin, Format}
use Rattle.std.specs.Float.Ieee.{prec, emax, low, up, down, size, nearest, units, fits, mul, of_int}
use Rattle.std.specs.Float.Ieee.Positive.{positive}
use Rattle.arithmetic_floats.specs.Float.{epsilon}

-- r is the whole part of the root of n
abbrev pub IsRoot : ℕ → ℕ → Type 0
IsRoot n r = (r * r ≤ n) × (n < suc r * suc r)

-- One more binary digit of the root of n, where r is the root of n / 4: 2 r + 1 if its square is at most n, else 2 r.
abbrev pub next_digit : ℕ → ℕ → ℕ
next_digit n r = cond (nat_le (suc (2 * r) * suc (2 * r)) n) (suc (2 * r)) (2 * r)

-- the whole part of the root of an n below 4 ^ d
unfoldable pub root_digits : ℕ → ℕ → ℕ
root_digits zero n = 0
root_digits (suc d) n = next_digit n (root_digits d (n / 4))

-- the whole part of the root of n
unfoldable pub isqrt : ℕ → ℕ
unfolding root_digits size
isqrt n = root_digits (size n) n

-- how many of the format's smallest values x is in size: a whole number, for a finite x that the format holds
abbrev pub count : Format → Float → ℕ
count f nan = 0
count f (inf s) = 0
count f (fin s m e) = m * up e * 2 ^ low f / down e

-- q * 2 ^ e smallest values are a value of the format above zero, with q the digits of its significand
pub record Scaled (f : Format) (q e : ℕ) : Type 0 where
  pub q_pos : 0 < q
  pub q_lt : q < 2 ^ prec f
  pub e_lt : e < 2 * emax f

-- The root of a number of n smallest values, for an n above 0, rounded. In smallest values it is the root of n * 2 ^ low, whose whole part is w.
-- Of w the format keeps the `prec` leading digits, q, and drops k. So the result is q or q + 1 multiples of 2 ^ k smallest values, by how the
-- exact root compares with q + 1/2 multiples: that is, by how 4 * (n * 2 ^ low) compares with the square of (2 q + 1) * 2 ^ k.
unfoldable pub sqrt_units : Format → ℕ → Float
unfolding isqrt size units
sqrt_units f n =
    let w = isqrt (n * 2 ^ low f) in
    let k = size w - prec f in
    let q = w / 2 ^ k in
    units f false (nearest q (compare (4 * (n * 2 ^ low f)) ((2 * q + 1) * 2 ^ k * ((2 * q + 1) * 2 ^ k)))) k

-- A zero keeps its sign. A number below zero has no root, nor has the infinity below zero.
unfoldable pub sqrt_of : Format → Float → Float
unfolding sqrt_units
sqrt_of f nan = nan
sqrt_of f (inf s) = cond s nan (inf s)
sqrt_of f (fin s zero e) = fin s zero e
sqrt_of f (fin s (suc m) e) = cond s nan (sqrt_units f (count f (fin s (suc m) e)))

-- r is nearer to the root of x than any other value of the format is, for an x above zero: the root lies above half way between r and a smaller
-- value y, and below half way between r and a larger one. All are counted in smallest values, in which the root of x is the root of count x * 2 ^ low,
-- and both sides are doubled and squared. At most one value is such an r.
pub record NearestRoot (f : Format) (x r : Float) : Type 0 where
  pub held : T (fits f r)
  pub plus : T (positive r)
  pub over : (y : Float) → T (fits f y) → count f y < count f r → (count f y + count f r) * (count f y + count f r) < 4 * (count f x * 2 ^ low f)
  pub under : (y : Float) → T (fits f y) → count f r < count f y → 4 * (count f x * 2 ^ low f) < (count f y + count f r) * (count f y + count f r)

-- a hundred times the distance from 1 to the next number
unfoldable pub hundred_steps : Format → Float
hundred_steps f = mul f (epsilon f) (of_int f (pos 100))
