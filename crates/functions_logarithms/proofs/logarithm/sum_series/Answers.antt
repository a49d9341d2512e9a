-- `sum_series` meets its contract: a step for each call. Assumes nothing.
use Rattle.functions_logarithms.proofs.LogarithmLaws.{series_summed}
use Rattle.functions_logarithms.proofs.logarithm.sum_series.Goals as goal

pub returns : goal.returns
returns g c =
    series_summed g.T.Real.format c.args.n (g.T.Real.floats c.args.w.now) c.requires (g.T.Real.floats c.copy.new.w) (g.T.Real.floats c.zero.new.w) (g.T.Real.floats c.add.new.w) (g.T.Real.floats c.add_terms.new.w) c.add_terms.result
    c.copy.ensures c.zero.ensures c.add.ensures c.add_terms.ensures
