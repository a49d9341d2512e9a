-- `find_pivot` meets its contract, by the search of the pivot (`PivotSearch` of LuLoop). Assumes nothing.
use Rattle.lu_factoring.proofs.LuLoop.{PivotSearch}
use Rattle.lu_factoring.proofs.factor.find_pivot.Given as goal

abbrev pub invariant-loop-i : goal.invariant-loop-i
invariant-loop-i g l = PivotSearch l.n (g.T.Real.floats l.m) l.k l.p (g.T.Real.float l.best) l.i
