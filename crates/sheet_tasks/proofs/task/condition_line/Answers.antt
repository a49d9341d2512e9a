-- `condition_line` meets its contract. Assumes nothing.
use mathlib.Core.Path.{ap, ◌∙◌}
use mathlib.Core.List.{[], ◌∷◌, ◌++◌}
use lib.ListN.{length}
use lib.Ieee.{binary64}
use Prim.Native.Nat.{ℕ}
use Rattle.functions_definitions.specs.Calls.{cond_expm}
use Rattle.functions_definitions.specs.Reports.{cond_exp_report}
use Rattle.sheet_tasks.specs.Tasks.{ratio, ending}
use Rattle.sheet_tasks.proofs.FewLaws.{few-condition, few-reported}
use Rattle.sheet_tasks.proofs.TaskLaws.{carried_ratio, carried_ending, lined_as}
use native.Mathlib.Omega.{arith}
use Rattle.sheet_tasks.proofs.task.condition_line.Goals as goal

pub put_answer-requires : goal.put_answer-requires
put_answer-requires c =
    let a = c.args in
    let s = a.sheet.now in
    let n = s.counts.order in
    let v = c.cond_expm_with-answer in
    let x = cond_expm binary64 n n s.matrix.now (length a.w.now) in
    record { space = c.requires.space; number = c.requires.number; few = few-reported x v.result.outcome (few-condition binary64 n s.matrix.now (length a.w.now)) v.ensures.conditioned.outcome; numbers = omega arith }

pub returns : goal.returns
returns c =
    let a = c.args in
    let s = a.sheet.now in
    let n = s.counts.order in
    let v = c.cond_expm_with-answer in
    let x = cond_expm binary64 n n s.matrix.now (length a.w.now) in
    let report = cond_exp_report binary64 n s.matrix.now in
    let numbers = carried_ending x v.result.outcome ((v.result.condition.ratio ∷ []) ++ []) report v.result.report v.ensures.conditioned.outcome v.ensures.report_value (carried_ratio x v.result.outcome _ v.ensures.conditioned) in
    let same = ap (λ (k : ℕ). ending report (ratio (cond_expm binary64 n n s.matrix.now k))) c.requires.workspace in
    lined_as binary64 a.task (numbers ∙ same) c.put_answer.ensures
