-- `bits_of` meets its contract: its test picks the NaNs. Assumes nothing.
use Rattle.std.proofs.Common.{T, subst}
use lib.Ieee.{binary32}
use Rattle.arithmetic_floats.proofs.Whole.{equals_itself}
use Rattle.arithmetic_floats.proofs.Nans.{nan_bits_lem}
use Rattle.arithmetic_floats.proofs.single.bits_of.Goals as goal

pub float_to_bits-result : goal.float_to_bits-result
float_to_bits-result c = equals_itself c.args.x (λ t. subst T c.if-x.false t)

pub returns-then-x : goal.returns-then-x
returns-then-x c = nan_bits_lem binary32 c.args.x c.if-x.true
