-- `newton_pass` meets its contract: a law for each outcome of LU. Assumes nothing.
use Rattle.functions_logarithms.proofs.NewtonLaws.{newton_passed, newton_failed}
use Rattle.functions_logarithms.proofs.newton.newton_pass.Goals as goal

pub returns-in-Ok : goal.returns-in-Ok
returns-in-Ok g c =
    let d = c.divide_slot-division in
    let rest = c.newton_mean-pass in
    newton_passed g.T.Real.format c.args.n (g.T.Real.floats c.args.w.now) c.requires (g.T.Real.floats c.copy.new.w) (g.T.Real.floats c.copy-2.new.w) (g.T.Real.floats d.new.w) d.result.outcome c.copy.ensures c.copy-2.ensures d.ensures.slot_quotient
    (g.T.Real.floats rest.new.w) rest.result (g.T.Real.float d.result.smallest) c.factored.result c.in-Ok.is rest.ensures d.ensures.smallest_value c.factored.ensures

pub returns-in-Err : goal.returns-in-Err
returns-in-Err g c =
    let d = c.divide_slot-division in
    newton_failed g.T.Real.format c.args.n (g.T.Real.floats c.args.w.now) c.requires (g.T.Real.floats c.copy.new.w) (g.T.Real.floats c.copy-2.new.w) (g.T.Real.floats d.new.w) d.result.outcome c.copy.ensures c.copy-2.ensures d.ensures.slot_quotient
    c.in-Err.field-0.column c.nothing.result c.in-Err.is c.nothing.ensures
