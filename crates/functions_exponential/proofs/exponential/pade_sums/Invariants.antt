-- `pade_sums` meets its contract, by the loop over the terms (`PadeTerms` of ExponentialLaws). Assumes nothing.

use Rattle.functions_exponential.proofs.ExponentialLaws.{PadeTerms}
use Rattle.functions_exponential.proofs.exponential.pade_sums.Given as goal

abbrev pub invariant-loop-k : goal.invariant-loop-k
invariant-loop-k g l = PadeTerms g.T.Real.format l.n (g.T.Real.floats l.initial.w) (g.T.Real.floats l.w) (g.T.Real.float l.c) l.k
