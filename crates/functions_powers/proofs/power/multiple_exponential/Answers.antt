-- `multiple_exponential` meets its contract. Assumes nothing.
use Rattle.std.specs.Prelude.{Ok}
use mathlib.Core.Path.{refl, ◌∙◌}
use mathlib.Core.List.{[], ◌∷◌}
use Rattle.arithmetic_matrices.specs.Product.{times_m}
use Rattle.arithmetic_matrices.specs.Workspace.{slot, member}
use Rattle.arithmetic_questions.specs.Result.{done}
use Rattle.arithmetic_questions.proofs.ReportLaws.{report_done, report_of_lem, report_refused}
use Rattle.arithmetic_matrices.proofs.Slots.{only_refl}
use Rattle.functions_definitions.specs.Powers.{exp_m}
use Rattle.functions_definitions.specs.Reports.{exp_report}
use Rattle.arithmetic_questions.proofs.ReplacedLaws.{replaced_by, then_refused, then_replaced}
use Rattle.functions_powers.proofs.PowerLaws.{multiple_replaced, multiple_reported}
use Rattle.functions_powers.proofs.power.multiple_exponential.Goals as goal

pub returns-in-Err : goal.returns-in-Err
returns-in-Err g c =
    let a = c.args in
    let x = c.expm_in-answer in
    let w3 = g.T.Real.floats x.new.w in
    let t = times_m g.T.Real.format a.n (g.T.Real.float a.p) (slot a.n (g.T.Real.floats a.w.now) 0) in
    let E = multiple_replaced g.T.Real.format a.n (g.T.Real.float a.p) (g.T.Real.floats a.w.now) (g.T.Real.floats c.times.new.w) (g.T.Real.floats c.copy.new.w) c.requires c.times.ensures c.copy.ensures (exp_m g.T.Real.format a.n) x.result.outcome w3 x.ensures.replaced in
    let no = c.refused in
    let why = c.in-Err.why in
    let R = then_refused (0 ∷ 1 ∷ 2 ∷ 3 ∷ 4 ∷ 5 ∷ []) a.n (exp_m g.T.Real.format a.n t) (λ x. done 0 x) (0 ∷ 1 ∷ 2 ∷ 3 ∷ 4 ∷ 5 ∷ []) x.result.outcome (g.T.Real.floats a.w.now) w3 E why no.result.outcome c.in-Err.is no.ensures.outcome_value refl in
    record {
      replaced = R;
      report_value = report_refused _ (exp_report g.T.Real.format a.n t) no.result.report no.result.outcome why R.outcome no.ensures.outcome_value no.ensures.report_value;
    }

pub returns-in-Ok : goal.returns-in-Ok
returns-in-Ok g c =
    let a = c.args in
    let x = c.expm_in-answer in
    let w3 = g.T.Real.floats x.new.w in
    let t = times_m g.T.Real.format a.n (g.T.Real.float a.p) (slot a.n (g.T.Real.floats a.w.now) 0) in
    let E = multiple_replaced g.T.Real.format a.n (g.T.Real.float a.p) (g.T.Real.floats a.w.now) (g.T.Real.floats c.times.new.w) (g.T.Real.floats c.copy.new.w) c.requires c.times.ensures c.copy.ensures (exp_m g.T.Real.format a.n) x.result.outcome w3 x.ensures.replaced in
    let R = then_replaced (0 ∷ 1 ∷ 2 ∷ 3 ∷ 4 ∷ 5 ∷ []) a.n (exp_m g.T.Real.format a.n t) (λ x. done 0 x) (0 ∷ 1 ∷ 2 ∷ 3 ∷ 4 ∷ 5 ∷ []) x.result.outcome (g.T.Real.floats a.w.now) w3 E _ [] (Ok 0) w3 c.in-Ok.is (replaced_by [] a.n 0 (Ok 0) (slot a.n w3 0) w3 w3 refl refl (only_refl (member []) w3)) refl refl in
    let ρ = multiple_reported g.T.Real.format a.n (g.T.Real.float a.p) (g.T.Real.floats a.w.now) (g.T.Real.floats c.times.new.w) (g.T.Real.floats c.copy.new.w) c.requires c.times.ensures c.copy.ensures x.result.report x.ensures.report_value in
    record {
      replaced = R;
      report_value = report_of_lem _ (exp_report g.T.Real.format a.n t) x.result.report x.result.outcome _ c.in-Ok.is E.outcome ρ ∙ report_done _ _ 0 R.outcome;
    }
