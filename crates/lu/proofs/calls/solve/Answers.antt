-- `solve` meets its contract. Assumes nothing.
use mathlib.Core.Path.{sym, ◌∙◌}
use lib.ListN.{length}
use Rattle.arithmetic_questions.specs.Result.{done}
use Rattle.arithmetic_questions.specs.Questions.{of_solve}
use Rattle.arithmetic_questions.specs.Reports.{nothing}
use Rattle.arithmetic_questions.proofs.OutputLaws.{output_refused, output_done}
use Rattle.arithmetic_questions.proofs.ReportLaws.{report_refused, report_done}
use Rattle.lu_factoring.specs.Solve.{solved_matrix}
use Rattle.lu.specs.Calls.{solve, solve_call}
use Rattle.lu.proofs.LuQuestionLaws.{solve_passed}
use Rattle.lu.proofs.calls.solve.Goals as goal

pub solve_into-requires : goal.solve_into-requires
solve_into-requires g c =
    let a = c.args in
    let asked = c.ask_solve in
    let laws = g.met.T.Real in
    let s = solve_passed a.rows a.columns (g.T.Real.floats a.f.now) a.pivots.now asked.result c.in-Ok.is a.height a.width (g.T.Real.floats a.b.now) (length a.out.now) asked.ensures in
    (sym (laws.length_law a.f.now) ∙ s.given.system.matrix, sym (laws.length_law a.b.now) ∙ s.right, s.solution, s.given.system.pivots, s.given.named)

pub returns-in-Err : goal.returns-in-Err
unfolding solve
returns-in-Err g c =
    let a = c.args in
    let asked = c.ask_solve in
    let R = output_refused of_solve (solve_call a.rows a.columns (g.T.Real.floats a.f.now) a.pivots.now a.height a.width (g.T.Real.floats a.b.now) (length a.out.now)) asked.result asked.ensures c.refused.result.outcome (g.T.Real.floats a.out.now)
    (done 0 (solved_matrix g.T.Real.format a.rows a.width (g.T.Real.floats a.f.now) a.pivots.now (g.T.Real.floats a.b.now))) _ c.in-Err.is c.refused.ensures.outcome_value in
    record {
      one_output = R;
      report_value = report_refused _ nothing _ c.refused.result.outcome c.in-Err.why R.outcome c.refused.ensures.outcome_value c.refused.ensures.report_value;
    }

pub returns-in-Ok : goal.returns-in-Ok
unfolding solve
returns-in-Ok g c =
    let a = c.args in
    let asked = c.ask_solve in
    let R = output_done of_solve (solve_call a.rows a.columns (g.T.Real.floats a.f.now) a.pivots.now a.height a.width (g.T.Real.floats a.b.now) (length a.out.now)) asked.result asked.ensures c.done.result.outcome (g.T.Real.floats a.out.now)
    0 (solved_matrix g.T.Real.format a.rows a.width (g.T.Real.floats a.f.now) a.pivots.now (g.T.Real.floats a.b.now)) _ c.in-Ok.is c.done.ensures.outcome_value c.solve_into.ensures in
    record {
      one_output = R;
      report_value = c.done.ensures.report_value ∙ report_done _ nothing 0 (sym c.done.ensures.outcome_value ∙ R.outcome);
    }
