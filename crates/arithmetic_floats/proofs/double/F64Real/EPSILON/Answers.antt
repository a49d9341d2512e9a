-- The constant, by its bits. Assumes nothing.
use lib.Ieee.{binary64}
use Rattle.arithmetic_floats.proofs.Constants.{epsilon_bits}
use Rattle.arithmetic_floats.proofs.double.F64Real.EPSILON.Goals as goal

pub returns : goal.returns
returns c = epsilon_bits binary64
