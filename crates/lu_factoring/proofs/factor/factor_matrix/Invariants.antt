-- `factor_matrix` meets its contract, by the loop over the columns (`Columns` of LuLoop). The measure is what is left of the columns. Assumes nothing.

use Rattle.lu_factoring.proofs.LuLoop.{Columns}
use Rattle.lu_factoring.proofs.factor.factor_matrix.Given as goal

abbrev pub invariant-loop-k : goal.invariant-loop-k
invariant-loop-k g l = Columns g.T.Real.format l.n (g.T.Real.floats l.initial.m) l.initial.pivots (g.T.Real.floats l.m) l.pivots l.k
