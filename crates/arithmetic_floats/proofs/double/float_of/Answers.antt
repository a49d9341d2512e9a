-- `float_of` meets its contract: its test picks the patterns of NaNs. Assumes nothing.
use lib.Ieee.{binary64}
use Rattle.arithmetic_floats.proofs.Nans.{nan_pattern, no_nan_pattern}
use Rattle.arithmetic_floats.proofs.double.float_of.Goals as goal

pub float_from_bits-result : goal.float_from_bits-result
float_from_bits-result c = no_nan_pattern binary64 c.args.bits c.if-bits-gt9218868437227405312.false

pub returns-then-bits-gt9218868437227405312 : goal.returns-then-bits-gt9218868437227405312
returns-then-bits-gt9218868437227405312 c = nan_pattern binary64 c.args.bits c.if-bits-gt9218868437227405312.true
