-- `double_angle` meets its contract. Assumes nothing.

use Rattle.functions_trigonometric.proofs.SeriesLaws.{double_angle_steps}
use Rattle.functions_trigonometric.proofs.sine.double_angle.Goals as goal

pub returns : goal.returns
returns g c =
    let a = c.args in
    double_angle_steps g.T.Real.format a.n (g.T.Real.floats a.w.now) c.requires (g.T.Real.floats c.double.new.w) (g.T.Real.floats c.double-2.new.w) (g.T.Real.floats c.minus_identity.new.w) c.double.ensures c.double-2.ensures c.minus_identity.ensures
