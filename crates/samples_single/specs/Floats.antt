-- Roots, magnitudes, powers of two and the source's constants in binary32, and whole exponents, against Rust: one table, one claim.
use Rattle.std.specs.Prelude.{suc, ◌≡◌, refl, true, List, [], ◌∷◌, map}
use Rattle.std.specs.Float.{binary32}
use Rattle.std.specs.Float.Ieee.{of_bits}
use Rattle.arithmetic_floats.specs.Float.{epsilon, power_of_two, inverse_power_of_two}
use Rattle.arithmetic_matrices.specs.Matrix.{tab, item}
use Rattle.lu_factoring.specs.Lu.{tolerance}
use Rattle.functions_definitions.specs.Exponential.{coefficient}
use Rattle.functions_definitions.specs.Roots.{root_tolerance}
use Rattle.functions_definitions.specs.Logarithm.{near}
use Rattle.functions_definitions.specs.Trigonometric.{one_over}
use Rattle.functions_definitions.specs.Derivatives.{log_step, unit_direction}
use Rattle.samples.specs.Shown.{Line, hold, bits, numbers}
use Rattle.samples.specs.Floats.{root, magnitude_and_low}
use Rattle.samples.specs.Starred.{integer}
use Rattle.samples.specs.Opened.{all}

unfoldable pub table : List Line
table =
    -- roots: of 2, 3, and the numbers on both sides of 1
    (0x3fb504f3 ∷ [], root binary32 0x40000000)
    ∷ (0x3fddb3d7 ∷ [], root binary32 0x40400000)
    ∷ (0x3f7fffff ∷ [], root binary32 0x3f7fffff)
    ∷ (0x3f800000 ∷ [], root binary32 0x3f800001)
    -- of the smallest number and twice that, the largest subnormal number, the least normal one, the largest
    ∷ (0x1a3504f3 ∷ [], root binary32 0x00000001)
    ∷ (0x1a800000 ∷ [], root binary32 0x00000002)
    ∷ (0x1fffffff ∷ [], root binary32 0x007fffff)
    ∷ (0x20000000 ∷ [], root binary32 0x00800000)
    ∷ (0x5f7fffff ∷ [], root binary32 0x7f7fffff)
    -- of zeros, infinities, numbers below zero, and NaN
    ∷ (0x00000000 ∷ [], root binary32 0x00000000)
    ∷ (0x80000000 ∷ [], root binary32 0x80000000)
    ∷ (0x7f800000 ∷ [], root binary32 0x7f800000)
    ∷ (0x7fc00000 ∷ [], root binary32 0xff800000)
    ∷ (0x7fc00000 ∷ [], root binary32 0xbf800000)
    ∷ (0x7fc00000 ∷ [], root binary32 0x80000001)
    ∷ (0x7fc00000 ∷ [], root binary32 0x7fc00000)
    -- magnitudes: zeros, the smallest values, ones and infinities of both signs, and NaN
    ∷ (0 ∷ 0 ∷ [], magnitude_and_low binary32 0)
    ∷ (0 ∷ 0 ∷ [], magnitude_and_low binary32 0x80000000)
    ∷ (1 ∷ 1 ∷ [], magnitude_and_low binary32 1)
    ∷ (1 ∷ 1 ∷ [], magnitude_and_low binary32 0x80000001)
    ∷ (0x3f800000 ∷ 0x3f800000 ∷ [], magnitude_and_low binary32 0x3f800000)
    ∷ (0x3f800000 ∷ 0x3f800000 ∷ [], magnitude_and_low binary32 0xbf800000)
    ∷ (0x7f800000 ∷ 0x7f800000 ∷ [], magnitude_and_low binary32 0x7f800000)
    ∷ (0x7f800000 ∷ 0x7f800000 ∷ [], magnitude_and_low binary32 0xff800000)
    ∷ (0x7fc00000 ∷ 0x7fc00000 ∷ [], magnitude_and_low binary32 0xffc00001)
    -- the bits of a number: zeros, the subnormal ends, the normal ends, infinities; every NaN has the same
    ∷ (
      0x00000000 ∷ 0x80000000 ∷ 0x00000001 ∷ 0x007fffff ∷ 0x00800000 ∷ 0xff7fffff ∷ 0x7f800000 ∷ 0xff800000 ∷ 0x7fc00000 ∷ 0x7fc00000 ∷ 0x7fc00000 ∷ [],
      bits binary32 (numbers binary32 (0x00000000 ∷ 0x80000000 ∷ 0x00000001 ∷ 0x007fffff ∷ 0x00800000 ∷ 0xff7fffff ∷ 0x7f800000 ∷ 0xff800000 ∷ 0x7fc00000 ∷ 0x7f800001 ∷ 0xffffffff ∷ [])),
    )
    -- 2^-64, which the most halvings scale by, 2^-149, 2^127
    ∷ (
      0x1f800000 ∷ 0x00000001 ∷ 0x7f000000 ∷ [],
      bits binary32 (inverse_power_of_two 64 ∷ inverse_power_of_two 149 ∷ power_of_two 127 ∷ []),
    )
    -- the machine step, the tolerance of a root, frechet_logm's step, 0.1
    ∷ (
      0x34000000 ∷ 0x37480000 ∷ 0x39b504f3 ∷ 0x3dcccccd ∷ [],
      bits binary32 (epsilon binary32 ∷ root_tolerance binary32 ∷ log_step binary32 ∷ near binary32 ∷ []),
    )
    -- 1 / k of the Taylor sums, for k = 2, 6, 24, 120, 720, 5040, 40320
    ∷ (
      0x3f000000 ∷ 0x3e2aaaab ∷ 0x3d2aaaab ∷ 0x3c088889 ∷ 0x3ab60b61 ∷ 0x39500d01 ∷ 0x37d00d01 ∷ [],
      bits binary32 (map (one_over binary32) (2 ∷ 6 ∷ 24 ∷ 120 ∷ 720 ∷ 5040 ∷ 40320 ∷ [])),
    )
    -- cond_expm's direction at orders 1 to 8: 1 / root of n, the root rounded from binary64
    ∷ (
      0x3f800000 ∷ 0x3f3504f3 ∷ 0x3f13cd3a ∷ 0x3f000000 ∷ 0x3ee4f92e ∷ 0x3ed105eb ∷ 0x3ec18490 ∷ 0x3eb504f3 ∷ [],
      bits binary32 (tab 8 (λ k. item (unit_direction binary32 (suc k)) 0)),
    )
    -- the coefficients of the Padé quotient
    ∷ (
      0x3f800000 ∷ 0x3f000000 ∷ 0x3df5c28f ∷ 0x3c962fc9 ∷ 0x3b0298db ∷ 0x392af6a5 ∷ 0x372dad5a ∷ 0x350af115 ∷ 0x32af815e ∷ 0x302d56af ∷ 0x2d828387 ∷ 0x2a8e60f0 ∷ 0x274a7e7d ∷ 0x238e69d7 ∷ [],
      bits binary32 (tab 14 (coefficient binary32)),
    )
    -- LU's tolerance at orders 1 to 8
    ∷ (
      0x34000000 ∷ 0x34800000 ∷ 0x34c00000 ∷ 0x35000000 ∷ 0x35200000 ∷ 0x35400000 ∷ 0x35600000 ∷ 0x35800000 ∷ [],
      bits binary32 (tab 8 (λ k. tolerance binary32 (suc k))),
    )
    -- what p is taken for: 0.1 and 8388607.5 for nothing; 16777215, -1e19
    ∷ ([], integer (of_bits binary32 0x3dcccccd))
    ∷ ([], integer (of_bits binary32 0x4affffff))
    ∷ (1 ∷ 16777215 ∷ [], integer (of_bits binary32 0x4b7fffff))
    ∷ (0 ∷ 9223372036854775807 ∷ [], integer (of_bits binary32 0xdf0ac723))
    ∷ []

pub floats_hold : hold table ≡ true
unfolding table all
floats_hold = refl
