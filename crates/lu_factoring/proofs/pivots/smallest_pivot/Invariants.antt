-- `smallest_pivot` meets its contract, by the search on the diagonal (`SmallestTo` of PivotLaws). Assumes nothing.
use Rattle.lu_factoring.proofs.PivotLaws.{SmallestTo}
use Rattle.lu_factoring.proofs.pivots.smallest_pivot.Given as goal

abbrev pub invariant-loop-k : goal.invariant-loop-k
invariant-loop-k g l = SmallestTo l.n (g.T.Real.floats l.w) l.off (g.T.Real.float l.least) l.k
