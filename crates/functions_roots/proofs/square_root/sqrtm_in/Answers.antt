-- `sqrtm_in` meets its contract: a law for order 1, and one for each end of the passes. Assumes nothing.
use native.Mathlib.Omega.{arith}
use mathlib.Core.Path.{ap, sym, ◌∙◌}
use Rattle.arithmetic_floats.specs.Root.{sqrt_of}
use Rattle.arithmetic_matrices.specs.Workspace.{slot}
use Rattle.arithmetic_questions.specs.declared.answer.Refusal.TheVariants.{NotConverged}
use Rattle.arithmetic_questions.proofs.ReportLaws.{report_done, report_refused}
use Rattle.functions_definitions.specs.Reports.{root_report}
use Rattle.functions_roots.proofs.SquareRootLaws.{root_number, number_reported, root_answers, root_refused, root_reported}
use Rattle.functions_roots.proofs.square_root.sqrtm_in.Goals as goal

pub returns-then-n-eq1 : goal.returns-then-n-eq1
returns-then-n-eq1 g c =
    let d = c.done in
    let laws = g.met.T.Real in
    let number = laws.item_law c.args.w.now 0 _ c.index-w-0.is (omega (arith, c.requires.space, laws.length_law c.args.w.now)) in
    let R = root_number g.T.Real.format c.args.n (g.T.Real.floats c.args.w.now) c.requires (g.T.Real.float c.sqrt.result) _ d.result.outcome c.if-n-eq1.true (c.sqrt.ensures.value ∙ ap (sqrt_of g.T.Real.format) number) (laws.set_law c.args.w.now 0 c.sqrt.result) d.ensures.outcome_value in
    record {
      replaced = R;
      report_value = number_reported g.T.Real.format c.args.n (g.T.Real.floats c.args.w.now) c.requires d.result.report c.if-n-eq1.true d.ensures.report_value ∙ report_done _ _ 0 (sym d.ensures.outcome_value ∙ R.outcome);
    }

pub returns-then-answers : goal.returns-then-answers
returns-then-answers g c =
    let p = c.root_passes-made in
    let P = p.ensures in
    let e = sym c.answers.ensures ∙ c.if-answers.true in
    let R = root_answers g.T.Real.format c.args.n (g.T.Real.floats c.args.w.now) c.requires (g.T.Real.floats c.identity.new.w) (g.T.Real.floats p.new.w) p.result.pass c.if-n-eq1.false c.identity.ensures P.passed e in
    record {
      replaced = R;
      report_value = root_reported g.T.Real.format c.args.n (g.T.Real.floats c.args.w.now) c.requires (g.T.Real.floats c.identity.new.w) (g.T.Real.floats p.new.w) p.result.pass c.if-n-eq1.false c.identity.ensures P.passed p.result.report (P.reports.report e)
          ∙ report_done _ _ 0 R.outcome;
    }

pub returns-else-answers : goal.returns-else-answers
returns-else-answers g c =
    let p = c.root_passes-made in
    let q = c.refused in
    let R = root_refused g.T.Real.format c.args.n (g.T.Real.floats c.args.w.now) c.requires (g.T.Real.floats c.identity.new.w) (g.T.Real.floats p.new.w) p.result.pass c.if-n-eq1.false c.identity.ensures p.ensures.passed
    q.result.outcome (sym c.answers.ensures ∙ c.if-answers.false) q.ensures.outcome_value in
    record {
      replaced = R;
      report_value = report_refused _ (root_report g.T.Real.format c.args.n (slot c.args.n (g.T.Real.floats c.args.w.now) 0)) q.result.report q.result.outcome NotConverged R.outcome q.ensures.outcome_value q.ensures.report_value;
    }
