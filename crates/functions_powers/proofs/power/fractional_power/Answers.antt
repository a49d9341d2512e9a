-- `fractional_power` meets its contract. Assumes nothing.
use native.Mathlib.Omega.{arith}
use mathlib.Core.Path.{refl}
use mathlib.Core.List.{[], ◌∷◌}
use Rattle.arithmetic_matrices.specs.Workspace.{slot}
use Rattle.functions_definitions.specs.Logarithm.{logarithm}
use Rattle.functions_definitions.specs.Powers.{fractional_power, multiple_exponential}
use Rattle.functions_definitions.specs.Reports.{fractional_report}
use Rattle.functions_definitions.proofs.StepLaws.{exp_few, log_few}
use Rattle.arithmetic_questions.proofs.ReportLaws.{report_refused, steps_few}
use Rattle.functions_powers.proofs.PowerLaws.{fractional_reported}
use Rattle.arithmetic_questions.proofs.ReplacedLaws.{then_refused, then_replaced}
use Rattle.functions_powers.proofs.power.fractional_power.Goals as goal

pub beside-requires : goal.beside-requires
beside-requires g c = omega (arith, steps_few _ _ _ 10059 c.logm_in-answer.ensures.report_value (log_few g.T.Real.format _ _), steps_few _ _ _ 0 c.multiple_exponential-second.ensures.report_value (exp_few g.T.Real.format _ _))

pub returns-in-Err : goal.returns-in-Err
unfolding fractional_power
returns-in-Err g c =
    let a = c.args in
    let x = slot a.n (g.T.Real.floats a.w.now) 0 in
    let l = c.logm_in-answer in
    let no = c.refused in
    let why = c.in-Err.why in
    let R = then_refused (0 ∷ 1 ∷ 2 ∷ 3 ∷ 4 ∷ 5 ∷ []) a.n (logarithm g.T.Real.format a.n x) (multiple_exponential g.T.Real.format a.n (g.T.Real.float a.p)) (0 ∷ 1 ∷ 2 ∷ 3 ∷ []) l.result.outcome (g.T.Real.floats a.w.now) (g.T.Real.floats l.new.w) l.ensures.replaced why no.result.outcome c.in-Err.is no.ensures.outcome_value refl in
    record {
      replaced = R;
      report_value = report_refused _ (fractional_report g.T.Real.format a.n x (g.T.Real.float a.p)) no.result.report no.result.outcome why R.outcome no.ensures.outcome_value no.ensures.report_value;
    }

pub returns-in-Ok : goal.returns-in-Ok
unfolding fractional_power
returns-in-Ok g c =
    let a = c.args in
    let x = slot a.n (g.T.Real.floats a.w.now) 0 in
    let l = c.logm_in-answer in
    let m = c.multiple_exponential-second in
    let b = c.beside in
    let r = c.answering in
    let R = then_replaced (0 ∷ 1 ∷ 2 ∷ 3 ∷ 4 ∷ 5 ∷ []) a.n (logarithm g.T.Real.format a.n x) (multiple_exponential g.T.Real.format a.n (g.T.Real.float a.p)) (0 ∷ 1 ∷ 2 ∷ 3 ∷ []) l.result.outcome (g.T.Real.floats a.w.now) (g.T.Real.floats l.new.w) l.ensures.replaced _ (0 ∷ 1 ∷ 2 ∷ 3 ∷ 4 ∷ 5 ∷ []) m.result.outcome (g.T.Real.floats m.new.w) c.in-Ok.is m.ensures.replaced refl refl in
    record {
      replaced = rw r.ensures.outcome_value R;
      report_value = fractional_reported g.T.Real.format a.n _ (g.T.Real.float a.p) x (0 ∷ 1 ∷ 2 ∷ 3 ∷ []) l.result.outcome m.result.outcome (g.T.Real.floats a.w.now) (g.T.Real.floats l.new.w) l.result.report m.result.report b.result r.result.report
          l.ensures.replaced c.in-Ok.is m.ensures.replaced.outcome R.outcome l.ensures.report_value m.ensures.report_value b.ensures r.ensures.report_value;
    }
