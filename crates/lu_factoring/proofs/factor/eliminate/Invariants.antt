-- `eliminate` meets its contract, by the loop over the rows (`EliminatedTo` of LuLoop). Assumes nothing.

use Rattle.lu_factoring.proofs.LuLoop.{EliminatedTo}
use Rattle.lu_factoring.proofs.factor.eliminate.Given as goal

abbrev pub invariant-loop-i : goal.invariant-loop-i
invariant-loop-i g l = EliminatedTo g.T.Real.format l.n l.k (g.T.Real.float l.t) (g.T.Real.floats l.initial.m) (g.T.Real.floats l.m) l.i
