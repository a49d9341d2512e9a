-- `float_of` meets its contract: its test picks the patterns of NaNs. Assumes nothing.
use lib.Ieee.{binary32}
use Rattle.arithmetic_floats.proofs.Nans.{nan_pattern, no_nan_pattern}
use Rattle.arithmetic_floats.proofs.single.float_of.Goals as goal

pub float_from_bits-result : goal.float_from_bits-result
float_from_bits-result c = no_nan_pattern binary32 c.args.bits c.if-bits-gt2139095040.false

pub returns-then-bits-gt2139095040 : goal.returns-then-bits-gt2139095040
returns-then-bits-gt2139095040 c = nan_pattern binary32 c.args.bits c.if-bits-gt2139095040.true
