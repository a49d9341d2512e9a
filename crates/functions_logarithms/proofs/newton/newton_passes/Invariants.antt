-- `newton_passes` meets its contract, by the loop over the passes (`Reporting` of PassLaws). Assumes nothing.
use Rattle.arithmetic_matrices.specs.Workspace.{slot}
use Rattle.functions_definitions.specs.Reports.{lu_report}
use Rattle.functions_definitions.specs.Roots.{newton_step}
use Rattle.functions_roots.proofs.PassLaws.{Reporting}
use Rattle.functions_logarithms.proofs.NewtonLaws.{root, used}
use Rattle.functions_logarithms.proofs.newton.newton_passes.Given as goal

abbrev pub invariant-loop-i : goal.invariant-loop-i
invariant-loop-i g l = Reporting (λ _. newton_step g.T.Real.format l.n (slot l.n (g.T.Real.floats l.initial.w) 0)) (lu_report g.T.Real.format l.n) 100 (root l.n) used (g.T.Real.floats l.initial.w) (g.T.Real.floats l.w) l.report l.i
