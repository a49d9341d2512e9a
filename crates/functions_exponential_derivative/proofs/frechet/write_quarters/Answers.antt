-- `write_quarters` meets its contract. Assumes nothing.
use mathlib.Core.Path.{refl}
use Rattle.functions_exponential_derivative.proofs.FrechetLaws.{quartered_done, quartered_none}
use Rattle.functions_exponential_derivative.proofs.frechet.write_quarters.Goals as goal

pub returns-in-Ok : goal.returns-in-Ok
returns-in-Ok g c =
    let a = c.args in
    let q = c.copy_quarters in
    record {
      quartered = quartered_done a.n a.answer.outcome (g.T.Real.floats a.w.now) (g.T.Real.floats a.first.now) (g.T.Real.floats q.new.first) (g.T.Real.floats a.second.now) (g.T.Real.floats q.new.second) _ c.in-Ok.is q.ensures.first_after q.ensures.second_after;
      report_value = refl;
    }

pub returns-in-Err : goal.returns-in-Err
returns-in-Err g c =
    let a = c.args in
    record {
      quartered = quartered_none a.n a.answer.outcome (g.T.Real.floats a.w.now) (g.T.Real.floats a.first.now) (g.T.Real.floats a.second.now) _ c.in-Err.is;
      report_value = refl;
    }
