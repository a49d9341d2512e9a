-- `double` meets its contract: a step for each kernel. Assumes nothing.
use Rattle.functions_trigonometric.proofs.SeriesLaws.{double_steps}
use Rattle.functions_trigonometric.proofs.cosine.double.Goals as goal

pub returns : goal.returns
returns g c =
    let a = c.args in
    double_steps g.T.Real.format a.n (g.T.Real.floats a.w.now) c.requires.room a.c (g.T.Real.floats c.mult.new.w) (g.T.Real.floats c.times.new.w) _ c.requires.c_bound.0 c.power_of_two.ensures c.mult.ensures c.times.ensures
