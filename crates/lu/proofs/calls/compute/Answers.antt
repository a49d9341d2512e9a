-- `compute` meets its contract. Assumes nothing.
use mathlib.Core.Path.{sym, ◌∙◌}
use lib.ListN.{length}
use Rattle.arithmetic_questions.specs.Reports.{factored}
use Rattle.arithmetic_questions.proofs.ReportLaws.{report_refused}
use Rattle.lu_factoring.specs.Pivots.{smallest_pivot}
use Rattle.lu.proofs.LuQuestionLaws.{compute_passed}
use Rattle.lu.proofs.CallLaws.{compute_refused, compute_done, compute_report}
use native.Mathlib.Omega.{arith}
use Rattle.lu.proofs.calls.compute.Goals as goal

pub compute_with_room-outcome-requires : goal.compute_with_room-outcome-requires
compute_with_room-outcome-requires g c =
    let asked = c.ask_compute in
    let a = c.args in
    let s = compute_passed a.rows a.columns (g.T.Real.floats a.a.now) a.pivots.now asked.result c.in-Ok.is (length a.factors.now) (length a.w.now) asked.ensures in
    (s.system.small, sym (g.met.T.Real.length_law a.a.now) ∙ s.system.matrix, s.room, s.factors, s.system.pivots)

pub clear-requires : goal.clear-requires
clear-requires g c =
    let asked = c.ask_compute in
    let a = c.args in
    let s = compute_passed a.rows a.columns (g.T.Real.floats a.a.now) a.pivots.now asked.result c.in-Ok.is (length a.factors.now) (length a.w.now) asked.ensures in
    omega (arith, s.room, c.compute_with_room-outcome.auto.w)

-- the length of the matrix is read too, so that the edit which hands it over fails at the report
pub answer_of-requires : goal.answer_of-requires
answer_of-requires g c =
    let asked = c.ask_compute in
    let a = c.args in
    let s = compute_passed a.rows a.columns (g.T.Real.floats a.a.now) a.pivots.now asked.result c.in-Ok.is (length a.factors.now) (length a.w.now) asked.ensures in
    omega (arith, c.compute_with_room-outcome.auto.factors, g.met.T.Real.length_law a.a.now)

pub returns-in-Err : goal.returns-in-Err
returns-in-Err g c =
    let asked = c.ask_compute in
    let a = c.args in
    let R = compute_refused g.T.Real.format a.rows a.columns (g.T.Real.floats a.a.now) (g.T.Real.floats a.factors.now) a.pivots.now (g.T.Real.floats a.w.now) asked.result (length a.factors.now) (length a.w.now) asked.ensures c.refused.result.outcome _ c.in-Err.is c.refused.ensures.outcome_value in
    record {
      computed = R;
      report_value = report_refused _ (factored (smallest_pivot g.T.Real.format a.rows (g.T.Real.floats a.a.now))) _ c.refused.result.outcome c.in-Err.why R.outcome c.refused.ensures.outcome_value c.refused.ensures.report_value;
    }

pub returns-in-Ok : goal.returns-in-Ok
returns-in-Ok g c =
    let asked = c.ask_compute in
    let a = c.args in
    let d = c.compute_with_room-outcome in
    let s = compute_passed a.rows a.columns (g.T.Real.floats a.a.now) a.pivots.now asked.result c.in-Ok.is (length a.factors.now) (length a.w.now) asked.ensures in
    let r = c.answer_of in
    let R = compute_done g.T.Real.format a.rows a.columns (g.T.Real.floats a.a.now) (g.T.Real.floats a.factors.now) a.pivots.now (g.T.Real.floats a.w.now) asked.result (length a.factors.now) (length a.w.now) asked.ensures r.result.outcome
    (g.T.Real.floats d.new.factors) d.new.pivots (g.T.Real.floats d.new.w) (g.T.Real.floats c.clear.new.w) d.result c.in-Ok.is (rw (g.met.T.Real.length_law a.w.now) s.room) d.ensures c.clear.ensures r.ensures.outcome_value in
    let ρ = compute_report g.T.Real.format a.rows a.columns (g.T.Real.floats a.a.now) (g.T.Real.floats a.factors.now) a.pivots.now (g.T.Real.floats a.w.now) asked.result (length a.factors.now) (length a.w.now) asked.ensures r.result.outcome
    (g.T.Real.floats d.new.factors) d.new.pivots (g.T.Real.floats d.new.w) d.result r.result.report s.system.matrix d.ensures R.outcome r.ensures.outcome_value r.ensures.report_value in
    record {
      computed = R;
      report_value = ρ;
    }
