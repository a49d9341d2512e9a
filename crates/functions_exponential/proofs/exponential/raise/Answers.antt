-- `raise` meets its contract: a law for each branch. Assumes nothing.

use Rattle.functions_exponential.proofs.ExponentialLaws.{raise_first, raise_more}
use Rattle.functions_exponential.proofs.exponential.raise.Goals as goal

pub returns-then-k-eq0 : goal.returns-then-k-eq0
returns-then-k-eq0 g c =
    let a = c.args in
    raise_first g.T.Real.format a.n (g.T.Real.floats a.w.now) c.requires a.k (g.T.Real.floats c.copy.new.w) c.if-k-eq0.true c.copy.ensures

pub returns-else-k-eq0 : goal.returns-else-k-eq0
returns-else-k-eq0 g c =
    let a = c.args in
    raise_more g.T.Real.format a.n (g.T.Real.floats a.w.now) c.requires a.k (g.T.Real.floats c.mult.new.w) (g.T.Real.floats c.copy-else-k-eq0.new.w) c.if-k-eq0.false c.mult.ensures c.copy-else-k-eq0.ensures
