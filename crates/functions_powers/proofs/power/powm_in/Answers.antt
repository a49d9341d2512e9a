-- `powm_in` meets its contract. Assumes nothing.
use mathlib.Core.Path.{refl, ◌∙◌, subst}
use mathlib.Core.List.{List, [], ◌∷◌}
use lib.Ieee.{Float}
use Rattle.arithmetic_matrices.specs.Workspace.{slot, member}
use Rattle.arithmetic_questions.specs.Result.{Result}
use Rattle.arithmetic_questions.specs.Kernels.{Replaced}
use Rattle.arithmetic_questions.specs.Reports.{report_at}
use Rattle.arithmetic_matrices.proofs.Slots.{only_refl}
use Rattle.arithmetic_questions.proofs.ReplacedLaws.{replaced_more}
use Rattle.functions_powers.proofs.WholeLaws.{exponent_read}
use Rattle.functions_powers.proofs.PowerLaws.{whole_told, power_whole, power_fractional, reports_whole, reports_fractional}
use Rattle.functions_powers.proofs.power.powm_in.Goals as goal

pub returns-then-is_integer : goal.returns-then-is_integer
returns-then-is_integer g c =
    let cast = c.integer_of in
    let a = c.args in
    let x = slot a.n (g.T.Real.floats a.w.now) 0 in
    let whole = whole_told (g.T.Real.float a.p) c.is_integer.ensures c.if-is_integer.true in
    let k = exponent_read cast.result (record { sfits = cast.type_inv }) cast.ensures in
    let e = power_whole g.T.Real.format a.n x (g.T.Real.float a.p) _ whole k in
    let r = c.whole_power in
    record {
      replaced = replaced_more (0 ∷ 1 ∷ 2 ∷ 3 ∷ 4 ∷ 5 ∷ []) (0 ∷ 1 ∷ 2 ∷ []) a.n _ r.result.outcome (g.T.Real.floats a.w.now) (g.T.Real.floats a.w.now) (g.T.Real.floats r.new.w) (only_refl (member (0 ∷ 1 ∷ 2 ∷ 3 ∷ 4 ∷ 5 ∷ [])) (g.T.Real.floats a.w.now))
          (subst (λ (v : Result (List Float)). Replaced (0 ∷ 1 ∷ 2 ∷ []) a.n v r.result.outcome (g.T.Real.floats a.w.now) (g.T.Real.floats r.new.w)) e r.ensures.replaced) refl;
      report_value = r.ensures.report_value ∙ (λ i. report_at (e i) (reports_whole g.T.Real.format a.n x (g.T.Real.float a.p) _ whole k i));
    }

pub returns-else-is_integer : goal.returns-else-is_integer
returns-else-is_integer g c =
    let a = c.args in
    let x = slot a.n (g.T.Real.floats a.w.now) 0 in
    let other = whole_told (g.T.Real.float a.p) c.is_integer.ensures c.if-is_integer.false in
    let e = power_fractional g.T.Real.format a.n x (g.T.Real.float a.p) other in
    let r = c.fractional_power in
    record {
      replaced = subst (λ (v : Result (List Float)). Replaced (0 ∷ 1 ∷ 2 ∷ 3 ∷ 4 ∷ 5 ∷ []) a.n v r.result.outcome (g.T.Real.floats a.w.now) (g.T.Real.floats r.new.w)) e r.ensures.replaced;
      report_value = r.ensures.report_value ∙ (λ i. report_at (e i) (reports_fractional g.T.Real.format a.n x (g.T.Real.float a.p) other i));
    }
