-- `root_bits` meets its contract, by the facts of `Aligned` at binary32. Assumes nothing.
use Rattle.std.proofs.Common.{arith}
use lib.Ieee.{binary32}
use Rattle.arithmetic_floats.proofs.Aligned.{z_ge, z_le, s_lt, s_le, r_lt, bits_lt, bits_are}
use Rattle.arithmetic_floats.proofs.single.root_bits.Goals as goal

pub overflow_add-result : goal.overflow_add-result
overflow_add-result c =
    let a = c.args in
    omega (arith, r_lt binary32 a.significand a.exponent c.requires c.root_digits-root.result c.root_digits-root.ensures)

pub overflow_cast-result : goal.overflow_cast-result
overflow_cast-result c =
    let a = c.args in
    omega (arith, bits_lt binary32 a.significand a.exponent c.requires c.root_digits-root.result c.root_digits-root.ensures)

pub returns : goal.returns
returns c =
    let a = c.args in (
      bits_are binary32 a.significand a.exponent c.requires c.root_digits-root.result c.root_digits-root.ensures,
      bits_lt binary32 a.significand a.exponent c.requires c.root_digits-root.result c.root_digits-root.ensures,
    )

pub overflow_cast-zeros : goal.overflow_cast-zeros
overflow_cast-zeros c = omega (arith, z_le binary32 c.args.significand c.args.exponent c.requires)

pub overflow_add-shift : goal.overflow_add-shift
overflow_add-shift c = omega (arith, z_le binary32 c.args.significand c.args.exponent c.requires)

pub overflow_add-shift-2 : goal.overflow_add-shift-2
overflow_add-shift-2 c = omega (arith, z_le binary32 c.args.significand c.args.exponent c.requires)

pub overflow_sub-shift : goal.overflow_sub-shift
overflow_sub-shift c = omega (arith, z_ge binary32 c.args.significand c.args.exponent c.requires)

pub overflow_shl-significand : goal.overflow_shl-significand
overflow_shl-significand c = s_lt binary32 c.args.significand c.args.exponent c.requires

pub overflow_sub-unit : goal.overflow_sub-unit
overflow_sub-unit c = s_le binary32 c.args.significand c.args.exponent c.requires
