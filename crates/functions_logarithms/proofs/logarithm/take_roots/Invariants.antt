-- `take_roots` meets its contract, by the loop over the roots (`Rooting` of LogarithmLaws). Assumes nothing.
use Rattle.functions_logarithms.proofs.LogarithmLaws.{Rooting}
use Rattle.functions_logarithms.proofs.logarithm.take_roots.Given as goal

abbrev pub invariant-loop-k : goal.invariant-loop-k
invariant-loop-k g l = Rooting g.T.Real.format l.n (g.T.Real.floats l.initial.w) (g.T.Real.floats l.w) l.report l.k
