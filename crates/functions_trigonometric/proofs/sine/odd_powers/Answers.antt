-- `odd_powers` meets its contract: a step for each product. Assumes nothing.

use Rattle.functions_trigonometric.proofs.SeriesLaws.{odd_steps}
use Rattle.functions_trigonometric.proofs.sine.odd_powers.Goals as goal

pub returns : goal.returns
returns g c =
    let a = c.args in
    odd_steps g.T.Real.format a.n (g.T.Real.floats a.w.now) c.requires (g.T.Real.floats c.mult.new.w) (g.T.Real.floats c.mult-2.new.w) (g.T.Real.floats c.mult-3.new.w) c.mult.ensures c.mult-2.ensures c.mult-3.ensures
