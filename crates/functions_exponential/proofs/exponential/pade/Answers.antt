-- `pade` meets its contract. Assumes nothing.

use Rattle.functions_exponential.proofs.ExponentialLaws.{pade_steps, pade_reported}
use Rattle.functions_exponential.proofs.exponential.pade.Goals as goal

pub returns : goal.returns
returns g c =
    let take1 = c.take_quotient in
    let divide1 = c.pade_divide-d in
    let sums = c.pade_sums in
    record {
      approximated = pade_steps g.T.Real.format c.args.n (g.T.Real.floats c.args.w.now) c.requires.room (g.T.Real.floats sums.new.w) (g.T.Real.floats divide1.new.w) (g.T.Real.floats take1.new.w) divide1.result.outcome sums.ensures divide1.ensures.pade_quotient take1.ensures;
      value = pade_reported g.T.Real.format c.args.n (g.T.Real.floats c.args.w.now) c.requires.room (g.T.Real.floats sums.new.w) (g.T.Real.float divide1.result.smallest) c.factored.result sums.ensures divide1.ensures.smallest_value c.factored.ensures;
    }
