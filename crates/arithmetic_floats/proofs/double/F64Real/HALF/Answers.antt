-- The constant, by its bits. Assumes nothing.
use lib.Ieee.{binary64}
use Rattle.arithmetic_floats.proofs.Constants.{half_bits}
use Rattle.arithmetic_floats.proofs.double.F64Real.HALF.Goals as goal

pub returns : goal.returns
returns c = half_bits binary64
