-- The constant, by its bits. Assumes nothing.
use lib.Ieee.{binary32}
use Rattle.arithmetic_floats.proofs.Constants.{half_bits}
use Rattle.arithmetic_floats.proofs.single.F32Real.HALF.Goals as goal

pub returns : goal.returns
returns c = half_bits binary32
