-- `kron_sum` meets its contract. Assumes nothing.
use native.Mathlib.Omega.{arith}
use mathlib.Core.Path.{sym, ◌∙◌}
use lib.ListN.{length}
use Rattle.arithmetic_questions.specs.Result.{done}
use Rattle.arithmetic_questions.specs.Questions.{of_kron_sum}
use Rattle.functions_definitions.specs.Kronecker.{kron_sum_m}
use Rattle.functions_definitions.specs.Calls.{kron_sum}
use Rattle.functions_kronecker.proofs.KroneckerQuestions.{call, kron_sum_fitting}
use Rattle.arithmetic_questions.specs.Reports.{nothing}
use Rattle.arithmetic_questions.proofs.OutputLaws.{output_refused, output_done}
use Rattle.arithmetic_questions.proofs.ReportLaws.{report_refused, report_done}
use Rattle.functions_kronecker.proofs.kron_sum.Goals as goal

pub kron_sum_into-requires : goal.kron_sum_into-requires
kron_sum_into-requires g c =
    let a = c.args in
    let asked = c.ask_kron_sum in
    let f = kron_sum_fitting a.m a.n (g.T.Real.floats a.a.now) a.p a.q (g.T.Real.floats a.b.now) (length a.out.now) asked.result c.in-Ok.is asked.ensures in
    omega (arith, g.met.T.Real.length_law a.a.now, g.met.T.Real.length_law a.b.now)

pub returns-in-Err : goal.returns-in-Err
unfolding kron_sum
returns-in-Err g c =
    let a = c.args in
    let asked = c.ask_kron_sum in
    let R = output_refused of_kron_sum (call a.m a.n (g.T.Real.floats a.a.now) a.p a.q (g.T.Real.floats a.b.now) (length a.out.now)) asked.result asked.ensures c.refused.result.outcome (g.T.Real.floats a.out.now)
    (done 0 (kron_sum_m g.T.Real.format a.m (g.T.Real.floats a.a.now) a.p (g.T.Real.floats a.b.now))) _ c.in-Err.is c.refused.ensures.outcome_value in
    record {
      one_output = R;
      report_value = report_refused _ nothing _ c.refused.result.outcome c.in-Err.why R.outcome c.refused.ensures.outcome_value c.refused.ensures.report_value;
    }

pub returns-in-Ok : goal.returns-in-Ok
unfolding kron_sum
returns-in-Ok g c =
    let a = c.args in
    let asked = c.ask_kron_sum in
    let R = output_done of_kron_sum (call a.m a.n (g.T.Real.floats a.a.now) a.p a.q (g.T.Real.floats a.b.now) (length a.out.now)) asked.result asked.ensures c.done.result.outcome (g.T.Real.floats a.out.now)
    0 (kron_sum_m g.T.Real.format a.m (g.T.Real.floats a.a.now) a.p (g.T.Real.floats a.b.now)) _ c.in-Ok.is c.done.ensures.outcome_value c.kron_sum_into.ensures in
    record {
      one_output = R;
      report_value = c.done.ensures.report_value ∙ report_done _ nothing 0 (sym c.done.ensures.outcome_value ∙ R.outcome);
    }
