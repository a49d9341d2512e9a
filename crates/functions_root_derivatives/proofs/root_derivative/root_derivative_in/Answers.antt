-- `root_derivative_in` meets its contract: a law for each end. Assumes nothing.
use native.Mathlib.Omega.{arith}
use mathlib.Core.Path.{◌∙◌}
use Rattle.arithmetic_matrices.specs.Workspace.{slot}
use Rattle.arithmetic_questions.specs.declared.answer.Refusal.TheVariants.{NotConverged}
use Rattle.arithmetic_questions.proofs.ReportLaws.{report_done, report_refused, same_steps, steps_few}
use Rattle.functions_definitions.specs.Reports.{root_with_derivative_report}
use Rattle.functions_definitions.proofs.StepLaws.{root_few, derivative_few}
use Rattle.functions_root_derivatives.proofs.RootDerivativeLaws.{root_refused_both, derivative_done, derivative_refused, derivative_reported}
use Rattle.functions_root_derivatives.specs.Kernels.{second_of}
use Rattle.functions_root_derivatives.proofs.root_derivative.root_derivative_in.Goals as goal

pub beside-requires : goal.beside-requires
beside-requires g c =
    let q = c.sqrtm_in-root in
    let d = c.derive_root-derivation in
    omega (arith, steps_few _ _ _ 100 q.ensures.report_value (root_few g.T.Real.format _ _), same_steps (d.ensures.report_value c.if-derivation.true), derivative_few g.T.Real.format c.args.n (slot c.args.n (g.T.Real.floats q.new.w) 0) (second_of c.args.transposed c.args.n (slot c.args.n (g.T.Real.floats q.new.w) 0)))

pub returns-then-derivation : goal.returns-then-derivation
returns-then-derivation g c =
    let q = c.sqrtm_in-root in
    let d = c.derive_root-derivation in
    let B = derivative_done g.T.Real.format c.args.n (second_of c.args.transposed c.args.n) (g.T.Real.floats c.args.w.now) c.requires.room (g.T.Real.floats q.new.w) q.result.outcome q.ensures.replaced c.in-Ok.field-0 d.result.accepted (g.T.Real.floats d.new.w) c.in-Ok.is d.ensures.derived c.if-derivation.true in
    record {
      replaced_both = B;
      report_value = derivative_reported g.T.Real.format c.args.n (second_of c.args.transposed c.args.n) (g.T.Real.floats c.args.w.now) c.requires.room (g.T.Real.floats q.new.w) q.result.outcome q.ensures.replaced c.in-Ok.field-0 d.result.accepted (g.T.Real.floats d.new.w) c.in-Ok.is d.ensures.derived
          q.result.report d.result.report c.beside.result q.ensures.report_value (d.ensures.report_value c.if-derivation.true) c.beside.ensures
          ∙ report_done _ _ 0 B.outcome;
    }

pub returns-else-derivation : goal.returns-else-derivation
returns-else-derivation g c =
    let q = c.sqrtm_in-root in
    let d = c.derive_root-derivation in
    let n = c.refused in
    let B = derivative_refused g.T.Real.format c.args.n (second_of c.args.transposed c.args.n) (g.T.Real.floats c.args.w.now) c.requires.room (g.T.Real.floats q.new.w) q.result.outcome q.ensures.replaced c.in-Ok.field-0 d.result.accepted (g.T.Real.floats d.new.w) c.in-Ok.is d.ensures.derived
    n.result.outcome c.if-derivation.false n.ensures.outcome_value in
    record {
      replaced_both = B;
      report_value = report_refused _ (root_with_derivative_report g.T.Real.format c.args.n (second_of c.args.transposed c.args.n) (slot c.args.n (g.T.Real.floats c.args.w.now) 0)) n.result.report n.result.outcome NotConverged B.outcome n.ensures.outcome_value n.ensures.report_value;
    }

pub returns-in-Err : goal.returns-in-Err
returns-in-Err g c =
    let q = c.sqrtm_in-root in
    let n = c.refused-in-Err in
    let y = c.in-Err.why in
    let B = root_refused_both g.T.Real.format c.args.n (second_of c.args.transposed c.args.n) (g.T.Real.floats c.args.w.now) c.requires.room (g.T.Real.floats q.new.w) q.result.outcome q.ensures.replaced n.result.outcome y c.in-Err.is n.ensures.outcome_value in
    record {
      replaced_both = B;
      report_value = report_refused _ (root_with_derivative_report g.T.Real.format c.args.n (second_of c.args.transposed c.args.n) (slot c.args.n (g.T.Real.floats c.args.w.now) 0)) n.result.report n.result.outcome y B.outcome n.ensures.outcome_value n.ensures.report_value;
    }
