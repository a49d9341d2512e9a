-- The constant, by its bits. Assumes nothing.
use lib.Ieee.{binary32}
use Rattle.arithmetic_floats.proofs.Constants.{epsilon_bits}
use Rattle.arithmetic_floats.proofs.single.F32Real.EPSILON.Goals as goal

pub returns : goal.returns
returns c = epsilon_bits binary32
