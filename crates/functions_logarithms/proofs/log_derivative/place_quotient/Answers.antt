-- `place_quotient` meets its contract: a step for each call. Assumes nothing.
use Rattle.functions_logarithms.proofs.LogDerivativeLaws.{quotient_placed}
use Rattle.functions_logarithms.proofs.log_derivative.place_quotient.Goals as goal

pub returns : goal.returns
returns g c =
    quotient_placed g.T.Real.format c.args.n (g.T.Real.floats c.args.w.now) c.requires (g.T.Real.floats c.difference_quotient.new.w) (g.T.Real.floats c.copy.new.w) (g.T.Real.floats c.copy-2.new.w) (g.T.Real.float c.log_step.result)
    c.log_step.ensures c.difference_quotient.ensures c.copy.ensures c.copy-2.ensures
