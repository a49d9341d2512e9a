-- `cosine_beside` meets its contract. Assumes nothing.

use Rattle.functions_trigonometric.proofs.SeriesLaws.{beside_steps}
use Rattle.functions_trigonometric.proofs.cosine.cosine_beside.Goals as goal

pub returns : goal.returns
returns g c =
    let a = c.args in
    beside_steps g.T.Real.format a.n (g.T.Real.floats a.w.now) c.requires (g.T.Real.floats c.even_powers.new.w) (g.T.Real.floats c.cosine_to_6.new.w) c.even_powers.ensures c.cosine_to_6.ensures
