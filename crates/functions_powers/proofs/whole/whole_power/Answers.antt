-- `whole_power` meets its contract. Assumes nothing.
use mathlib.Core.Path.{sym, ap, ◌∙◌, subst}
use mathlib.Core.List.{List, [], ◌∷◌}
use Prim.Native.Nat.{ℕ}
use lib.Ieee.{Float}
use Rattle.arithmetic_matrices.specs.Workspace.{slot}
use Rattle.arithmetic_questions.specs.Result.{Result, done}
use Rattle.arithmetic_questions.specs.Kernels.{Replaced}
use Rattle.arithmetic_questions.specs.Reports.{report_at}
use Rattle.arithmetic_questions.proofs.ReportLaws.{report_done}
use Rattle.functions_definitions.specs.Powers.{bit_power, inverse_power}
use Rattle.functions_powers.proofs.WholeLaws.{sign_of, size_read, whole_negative, whole_positive, reports_negative, reports_positive}
use Rattle.arithmetic_questions.proofs.ReplacedLaws.{replaced_by}
use Rattle.functions_powers.proofs.whole.whole_power.Goals as goal

pub returns-then-is_negative : goal.returns-then-is_negative
returns-then-is_negative g c =
    let a = c.args in
    let x = slot a.n (g.T.Real.floats a.w.now) 0 in
    let below = sign_of a.e c.ranges.e c.is_negative.ensures c.if-is_negative.true in
    let e = ap (inverse_power g.T.Real.format a.n x) (size_read a.e c.ranges.e c.size_of.ensures) ∙ sym (whole_negative g.T.Real.format a.n x a.e below) in
    let p = c.inverse_power in
    record {
      replaced = subst (λ (v : Result (List Float)). Replaced (0 ∷ 1 ∷ 2 ∷ []) a.n v p.result.outcome (g.T.Real.floats a.w.now) (g.T.Real.floats p.new.w)) e p.ensures.replaced;
      report_value = p.ensures.report_value ∙ (λ i. report_at (e i) (reports_negative g.T.Real.format a.n x a.e below i));
    }

pub returns-else-is_negative : goal.returns-else-is_negative
returns-else-is_negative g c =
    let a = c.args in
    let x = slot a.n (g.T.Real.floats a.w.now) 0 in
    let w1 = g.T.Real.floats c.bit_power.new.w in
    let above = sign_of a.e c.ranges.e c.is_negative.ensures c.if-is_negative.false in
    let e = ap (λ (k : ℕ). done 0 (bit_power g.T.Real.format a.n x k 64)) (size_read a.e c.ranges.e c.size_of-else-is_negative.ensures) ∙ sym (whole_positive g.T.Real.format a.n x a.e above) in
    let d = c.done in
    let R = subst (λ (v : Result (List Float)). Replaced (0 ∷ 1 ∷ 2 ∷ []) a.n v d.result.outcome (g.T.Real.floats a.w.now) w1) e (replaced_by (0 ∷ 1 ∷ 2 ∷ []) a.n 0 d.result.outcome _ (g.T.Real.floats a.w.now) w1 d.ensures.outcome_value c.bit_power.ensures.result c.bit_power.ensures.only) in
    record {
      replaced = R;
      report_value = d.ensures.report_value ∙ reports_positive g.T.Real.format a.n x a.e above ∙ report_done _ _ 0 (sym d.ensures.outcome_value ∙ R.outcome);
    }
