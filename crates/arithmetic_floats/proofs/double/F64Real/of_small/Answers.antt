-- `of_small` meets its contract: n is small enough to be a float. Assumes nothing.
use Rattle.std.proofs.Common.{◌^◌, refl, le→leb}
use lib.Ieee.{in_float}
use Rattle.arithmetic_floats.proofs.double.F64Real.of_small.Goals as goal

pub int_to_float-result : goal.int_to_float-result
unfolding in_float
int_to_float-result c = le→leb c.args.n (2 ^ 53) c.requires

pub returns : goal.returns
returns c = refl
