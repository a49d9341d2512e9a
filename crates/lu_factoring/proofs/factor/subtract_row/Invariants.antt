-- `subtract_row` meets its contract, by the loop over the columns of the row (`SubtractedTo` of LuLoop). Assumes nothing.

use Rattle.lu_factoring.proofs.LuLoop.{SubtractedTo}
use Rattle.lu_factoring.proofs.factor.subtract_row.Given as goal

abbrev pub invariant-loop-j : goal.invariant-loop-j
invariant-loop-j g l = SubtractedTo g.T.Real.format l.n l.k l.i (g.T.Real.float l.x) (g.T.Real.floats l.initial.m) (g.T.Real.floats l.m) l.j
