-- `add_terms` meets its contract, by the loop over the terms (`Passing` of PassLaws). Assumes nothing.
use Rattle.arithmetic_matrices.specs.Workspace.{slot}
use Rattle.functions_definitions.specs.Logarithm.{series_step}
use Rattle.functions_roots.proofs.PassLaws.{Passing}
use Rattle.functions_logarithms.specs.Kernels.{series_in}
use Rattle.functions_logarithms.proofs.LogarithmLaws.{summing}
use Rattle.functions_logarithms.proofs.logarithm.add_terms.Given as goal

abbrev pub invariant-loop-k : goal.invariant-loop-k
invariant-loop-k g l = Passing (series_step g.T.Real.format l.n (slot l.n (g.T.Real.floats l.initial.w) 0)) 59 (series_in l.n) summing (g.T.Real.floats l.initial.w) (g.T.Real.floats l.w) l.k
