-- `newton_passes` meets its contract, by the loop over the passes (`Reporting` of PassLaws). Assumes nothing.
use native.Mathlib.Omega.{arith}
use mathlib.Core.Path.{◌≡◌, ap, ◌∙◌}
use mathlib.Core.Bool.{false}
use Rattle.arithmetic_questions.specs.Reports.{iterated}
use Rattle.arithmetic_matrices.proofs.Slots.{room_kept}
use Rattle.arithmetic_questions.proofs.ReportLaws.{same_steps}
use Rattle.functions_roots.proofs.PassLaws.{reporting_start, reporting_turn, reporting_stopped, reporting_failed, reporting_end, turn_fits}
use Rattle.functions_logarithms.proofs.NewtonLaws.{newton_same}
use Rattle.functions_logarithms.proofs.newton.newton_passes.Goals as goal

pub beside-requires : goal.beside-requires
beside-requires g c = omega (arith, c.loop-i-test.true, c.loop-i.invariant.few, c.newton_pass-made.ensures.reports.few, same_steps c.beside-report.ensures, same_steps c.iterated.ensures)

pub loop-i-init : goal.loop-i-init
loop-i-init g c = search reporting_start

pub newton_pass-made-requires : goal.newton_pass-made-requires
newton_pass-made-requires g c = search room_kept

pub beside-report-requires : goal.beside-report-requires
beside-report-requires g c = search turn_fits

pub returns-in-Stopped : goal.returns-in-Stopped
returns-in-Stopped g c = search (reporting_stopped, newton_same)

pub returns-in-Failed : goal.returns-in-Failed
returns-in-Failed g c = search (reporting_failed, newton_same)

pub loop-i-preserved : goal.loop-i-preserved
loop-i-preserved g c = search (reporting_turn, newton_same)

pub beside-requires-2 : goal.beside-requires-2
beside-requires-2 g c = omega (arith, same_steps c.iterated-2.ensures, c.loop-i.invariant.few)

pub returns : goal.returns
returns g c =
    let all : 100 ≡ c.loop-i.i = omega (arith, c.loop-i-test.false, c.loop-i.invariant.passing.within) in
    reporting_end c.loop-i.invariant (c.iterated-2.ensures ∙ ap (λ k. iterated k false) all) c.beside-2.ensures c.loop-i-test.false
