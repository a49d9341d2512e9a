-- `cosine_to_8` meets its contract. Assumes nothing.

use Rattle.functions_trigonometric.proofs.SeriesLaws.{eighth_steps}
use Rattle.functions_trigonometric.proofs.cosine.cosine_to_8.Goals as goal

pub returns : goal.returns
returns g c =
    let a = c.args in
    eighth_steps g.T.Real.format a.n (g.T.Real.floats a.w.now) c.requires (g.T.Real.floats c.cosine_beside.new.w) (g.T.Real.floats c.mult.new.w) (g.T.Real.floats c.accumulate.new.w) (g.T.Real.float c.one_over.result) c.one_over.ensures
    c.cosine_beside.ensures c.mult.ensures c.accumulate.ensures
