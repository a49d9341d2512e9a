-- `inverse_power_of_two` meets its contract, by the facts of `Powers`. Assumes nothing.
use lib.Ieee.{binary32}
use Rattle.arithmetic_floats.proofs.Powers.{inverse_bits, inverse_no_nan}
use Rattle.arithmetic_floats.proofs.single.F32Real.inverse_power_of_two.Goals as goal

pub float_from_bits-result : goal.float_from_bits-result
float_from_bits-result c = inverse_no_nan binary32 c.args.s

pub returns : goal.returns
returns c = inverse_bits binary32 c.args.s c.requires
