-- `sine_to_7` meets its contract: a step for each term. Assumes nothing.

use Rattle.functions_trigonometric.proofs.SeriesLaws.{seventh_steps}
use Rattle.functions_trigonometric.proofs.sine.sine_to_7.Goals as goal

pub returns : goal.returns
returns g c =
    let a = c.args in
    seventh_steps g.T.Real.format a.n (g.T.Real.floats a.w.now) c.requires (g.T.Real.floats c.deduct.new.w) (g.T.Real.floats c.accumulate.new.w) (g.T.Real.floats c.deduct-2.new.w)
    (g.T.Real.float c.one_over.result) (g.T.Real.float c.one_over-2.result) (g.T.Real.float c.one_over-3.result) c.one_over.ensures c.one_over-2.ensures c.one_over-3.ensures
    c.deduct.ensures c.accumulate.ensures c.deduct-2.ensures
