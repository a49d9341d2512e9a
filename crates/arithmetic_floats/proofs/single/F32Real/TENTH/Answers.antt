-- The constant, by computing. Assumes nothing.
use mathlib.Core.Path.{refl}
use lib.Ieee.{of_bits, round}
use Rattle.arithmetic_floats.specs.Float.{constant}
use Rattle.arithmetic_floats.proofs.single.F32Real.TENTH.Goals as goal

pub returns : goal.returns
unfolding of_bits round constant
returns c = refl
