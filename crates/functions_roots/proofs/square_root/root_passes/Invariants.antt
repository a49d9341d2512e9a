-- `root_passes` meets its contract, by the loop over the passes (`Reporting` of PassLaws). Assumes nothing.
use Rattle.functions_definitions.specs.Roots.{denman_beavers_step}
use Rattle.functions_definitions.specs.Reports.{pair_report}
use Rattle.functions_roots.specs.Kernels.{pair_in}
use Rattle.functions_roots.proofs.PassLaws.{Reporting}
use Rattle.functions_roots.proofs.SquareRootLaws.{used}
use Rattle.functions_roots.proofs.square_root.root_passes.Given as goal

abbrev pub invariant-loop-i : goal.invariant-loop-i
invariant-loop-i g l = Reporting (λ _. denman_beavers_step g.T.Real.format l.n) (pair_report g.T.Real.format l.n) 100 (pair_in l.n) used (g.T.Real.floats l.initial.w) (g.T.Real.floats l.w) l.report l.i
