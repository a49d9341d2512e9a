-- `sine_and_cosine` meets its contract. Assumes nothing.

use Rattle.functions_trigonometric.proofs.SeriesLaws.{both_steps}
use Rattle.functions_trigonometric.proofs.sine.sine_and_cosine.Goals as goal

pub returns : goal.returns
returns g c =
    let a = c.args in
    both_steps g.T.Real.format a.n (g.T.Real.floats a.w.now) c.requires (g.T.Real.floats c.cosine_beside.new.w) (g.T.Real.floats c.odd_powers.new.w) (g.T.Real.floats c.sine_to_7.new.w) c.cosine_beside.ensures c.odd_powers.ensures c.sine_to_7.ensures
