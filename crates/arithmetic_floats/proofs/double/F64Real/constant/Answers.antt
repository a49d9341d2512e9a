-- An `f64` is its own constant. Assumes nothing.
use Rattle.std.proofs.Common.{refl}
use Rattle.arithmetic_floats.specs.Float.{constant}
use Rattle.arithmetic_floats.proofs.double.F64Real.constant.Goals as goal

pub returns : goal.returns
unfolding constant
returns c = refl
