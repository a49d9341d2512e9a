-- `multiply_bits` meets its contract, by the loop over the bits (`BitsDone` of WholeLaws). The measure is what is left of e. Assumes nothing.
use Rattle.functions_powers.proofs.WholeLaws.{BitsDone}
use Rattle.functions_powers.proofs.whole.multiply_bits.Given as goal

abbrev pub invariant-loop-rest : goal.invariant-loop-rest
invariant-loop-rest g l = BitsDone g.T.Real.format l.n l.e (g.T.Real.floats l.initial.w) (g.T.Real.floats l.w) l.rest

abbrev pub decreases-loop-rest : goal.decreases-loop-rest
decreases-loop-rest g l = l.rest
