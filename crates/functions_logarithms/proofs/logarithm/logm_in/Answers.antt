-- `logm_in` meets its contract: a law for each end of the roots. Assumes nothing.
use mathlib.Core.Path.{◌∙◌}
use Rattle.arithmetic_matrices.specs.Product.{minus_identity_m}
use Rattle.arithmetic_matrices.specs.Workspace.{slot}
use Rattle.arithmetic_questions.specs.declared.answer.Refusal.TheVariants.{NotConverged}
use Rattle.arithmetic_questions.proofs.ReportLaws.{report_done, report_refused, same_steps}
use Rattle.functions_definitions.specs.Reports.{log_report}
use Rattle.functions_definitions.proofs.StepLaws.{roots_few, series_few}
use Rattle.functions_logarithms.proofs.LogarithmLaws.{logarithm_done, logarithm_reported, logarithm_refused}
use native.Mathlib.Omega.{arith}
use Rattle.functions_logarithms.proofs.logarithm.logm_in.Goals as goal

pub near_logarithm-series-requires : goal.near_logarithm-series-requires
near_logarithm-series-requires g c =
    record {
      room = record { order = c.requires.order; space = omega (arith, c.take_roots.auto.w, c.requires.space, g.met.T.Real.length_law c.args.w.now, g.met.T.Real.length_law c.take_roots.new.w) };
      roots_bound = c.in-Some.ensures.few;
    }

pub beside-requires : goal.beside-requires
beside-requires g c =
    let n = c.args.n in
    omega (
      arith,
      same_steps c.in-Some.ensures.reports,
      roots_few g.T.Real.format n (slot n (g.T.Real.floats c.args.w.now) 0),
      same_steps c.near_logarithm-series.ensures.report,
      series_few g.T.Real.format n (minus_identity_m g.T.Real.format n (slot n (g.T.Real.floats c.take_roots.new.w) 0)),
    )

pub returns-in-Some : goal.returns-in-Some
returns-in-Some g c =
    let w1 = (g.T.Real.floats c.take_roots.new.w) in
    let t = c.in-Some.taken in
    let T = c.in-Some.ensures in
    let l = c.near_logarithm-series in
    let R = logarithm_done g.T.Real.format c.args.n (g.T.Real.floats c.args.w.now) c.requires w1 t T (g.T.Real.floats l.new.w) l.result l.ensures in
    record {
      replaced = R;
      report_value = logarithm_reported g.T.Real.format c.args.n (g.T.Real.floats c.args.w.now) c.requires w1 t T (g.T.Real.floats l.new.w) l.result c.beside.result l.ensures c.beside.ensures
          ∙ report_done _ _ 0 R.outcome;
    }

pub returns-in-None : goal.returns-in-None
returns-in-None g c =
    let no = c.refused in
    let R = logarithm_refused g.T.Real.format c.args.n (g.T.Real.floats c.args.w.now) c.requires (g.T.Real.floats c.take_roots.new.w) c.in-None.ensures no.result.outcome no.ensures.outcome_value in
    record {
      replaced = R;
      report_value = report_refused _ (log_report g.T.Real.format c.args.n (slot c.args.n (g.T.Real.floats c.args.w.now) 0)) no.result.report no.result.outcome NotConverged R.outcome no.ensures.outcome_value no.ensures.report_value;
    }
