-- `double_cosine` meets its contract. Assumes nothing.

use Rattle.functions_trigonometric.proofs.SeriesLaws.{double_cosine_steps}
use Rattle.functions_trigonometric.proofs.cosine.double_cosine.Goals as goal

pub returns : goal.returns
returns g c =
    let a = c.args in
    double_cosine_steps g.T.Real.format a.n (g.T.Real.floats a.w.now) c.requires (g.T.Real.floats c.double.new.w) (g.T.Real.floats c.minus_identity.new.w) c.double.ensures c.minus_identity.ensures
