-- The conversion is the rounding of `constant`. Assumes nothing.
use Rattle.std.proofs.Common.{◌≡◌, refl, ◌∙◌}
use lib.Ieee.{Float, nan, inf, fin, binary32}
use Rattle.std.specs.Float.{round_to_format}
use Rattle.arithmetic_floats.specs.Float.{constant}
use Rattle.arithmetic_floats.proofs.single.F32Real.constant.Goals as goal

rounded : (x : Float) → round_to_format binary32 x ≡ constant binary32 x
unfolding constant round_to_format
rounded nan = refl
rounded (inf s) = refl
rounded (fin s m e) = refl

pub returns : goal.returns
returns c = c.nearest_f64_to_f32_with_nan.ensures ∙ rounded c.args.x
