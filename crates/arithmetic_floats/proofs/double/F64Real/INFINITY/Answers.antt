-- The constant, by its bits. Assumes nothing.
use lib.Ieee.{of_bits, div, neg}
use Rattle.std.proofs.Common.{refl}
use Rattle.arithmetic_floats.proofs.double.F64Real.INFINITY.Goals as goal

pub returns : goal.returns
unfolding of_bits div neg
returns c = refl
