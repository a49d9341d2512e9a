-- `series_pass` meets its contract: a step for each call. Assumes nothing.
use Rattle.functions_logarithms.proofs.LogarithmLaws.{term_added}
use Rattle.functions_logarithms.proofs.logarithm.series_pass.Goals as goal

pub returns : goal.returns
returns g c =
    let a = c.args in
    term_added g.T.Real.format a.n (g.T.Real.floats a.w.now) c.requires.room a.k (g.T.Real.floats c.mult.new.w) (g.T.Real.floats c.copy.new.w) (g.T.Real.floats c.times.new.w) (g.T.Real.floats c.add.new.w) (g.T.Real.float c.series_coefficient.result) c.is_last.result
    c.mult.ensures c.copy.ensures c.series_coefficient.ensures c.times.ensures c.add.ensures c.is_last.ensures
