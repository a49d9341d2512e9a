-- `near_logarithm` meets its contract: a step for each call. Assumes nothing.
use Rattle.functions_logarithms.proofs.LogarithmLaws.{near_steps}
use Rattle.functions_logarithms.proofs.logarithm.near_logarithm.Goals as goal

pub returns : goal.returns
returns g c =
    near_steps g.T.Real.format c.args.n (g.T.Real.floats c.args.w.now) c.requires.room c.args.roots (g.T.Real.floats c.minus_identity.new.w) (g.T.Real.floats c.sum_series-report.new.w) (g.T.Real.floats c.scale.new.w) (g.T.Real.floats c.copy.new.w) (g.T.Real.float c.power_of_two.result) c.sum_series-report.result
    c.minus_identity.ensures c.sum_series-report.ensures c.power_of_two.ensures c.scale.ensures c.copy.ensures
