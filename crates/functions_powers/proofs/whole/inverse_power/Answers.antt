-- `inverse_power` meets its contract. Assumes nothing.
use Rattle.std.specs.Prelude.{Ok}
use mathlib.Core.Path.{refl, ◌∙◌}
use mathlib.Core.List.{[], ◌∷◌}
use Rattle.arithmetic_matrices.specs.Workspace.{slot}
use Rattle.arithmetic_questions.specs.Result.{done}
use Rattle.arithmetic_questions.proofs.ReportLaws.{report_done, report_of_lem, report_refused}
use Rattle.lu_factoring.specs.Solve.{inverse}
use Rattle.functions_definitions.specs.Roots.{or_not_converged}
use Rattle.functions_definitions.specs.Powers.{bit_power}
use Rattle.functions_definitions.specs.Reports.{lu_report}
use Rattle.arithmetic_questions.proofs.ReplacedLaws.{replaced_by, then_refused, then_replaced}
use Rattle.functions_powers.proofs.whole.inverse_power.Goals as goal

pub returns-in-Err : goal.returns-in-Err
returns-in-Err g c =
    let a = c.args in
    let x = slot a.n (g.T.Real.floats a.w.now) 0 in
    let i = c.inverse_in-answer in
    let no = c.refused in
    let why = c.in-Err.why in
    let R = then_refused (0 ∷ 1 ∷ 2 ∷ []) a.n (or_not_converged (inverse g.T.Real.format a.n x)) (λ b. done 0 (bit_power g.T.Real.format a.n b a.e 64)) (0 ∷ 1 ∷ []) i.result.outcome (g.T.Real.floats a.w.now) (g.T.Real.floats i.new.w) i.ensures.replaced why no.result.outcome c.in-Err.is no.ensures.outcome_value refl in
    record {
      replaced = R;
      report_value = report_refused _ (lu_report g.T.Real.format a.n x) no.result.report no.result.outcome why R.outcome no.ensures.outcome_value no.ensures.report_value;
    }

pub returns-in-Ok : goal.returns-in-Ok
returns-in-Ok g c =
    let a = c.args in
    let x = slot a.n (g.T.Real.floats a.w.now) 0 in
    let i = c.inverse_in-answer in
    let w1 = g.T.Real.floats i.new.w in
    let w2 = g.T.Real.floats c.bit_power.new.w in
    let R = then_replaced (0 ∷ 1 ∷ 2 ∷ []) a.n (or_not_converged (inverse g.T.Real.format a.n x)) (λ b. done 0 (bit_power g.T.Real.format a.n b a.e 64)) (0 ∷ 1 ∷ []) i.result.outcome (g.T.Real.floats a.w.now) w1 i.ensures.replaced _ (0 ∷ 1 ∷ 2 ∷ []) (Ok 0) w2 c.in-Ok.is
    (replaced_by (0 ∷ 1 ∷ 2 ∷ []) a.n 0 (Ok 0) (bit_power g.T.Real.format a.n (slot a.n w1 0) a.e 64) w1 w2 refl c.bit_power.ensures.result c.bit_power.ensures.only) refl refl in
    record {
      replaced = R;
      report_value = report_of_lem _ (lu_report g.T.Real.format a.n x) i.result.report i.result.outcome _ c.in-Ok.is i.ensures.replaced.outcome i.ensures.report_value ∙ report_done _ _ 0 R.outcome;
    }
