-- `value_line` meets its contract. Assumes nothing.
use mathlib.Core.Path.{◌≡◌, ap, ◌∙◌}
use mathlib.Core.List.{[], ◌++◌}
use lib.Ieee.{Float, binary64}
use Prim.Native.Nat.{ℕ, ◌*◌}
use lib.ListN.{length, take}
use lib.Seq.{length-take-le}
use Rattle.sheet_tasks.specs.Tasks.{value_for, value_report, exponent_for, ending}
use Rattle.sheet_tasks.specs.Functions.{value_code}
use Rattle.sheet_tasks.proofs.FewLaws.{few-value, few-reported}
use Rattle.sheet_tasks.proofs.TaskLaws.{carried_one, carried_ending, lined_as}
use native.Mathlib.Nat.{mul-le-mul}
use native.Mathlib.Omega.{arith}
use Rattle.sheet_tasks.proofs.task.value_line.Goals as goal

pub put_answer-requires : goal.put_answer-requires
put_answer-requires c =
    let a = c.args in
    let x = a.sheet.now in
    let n = x.counts.order in
    let v = c.value-answer in
    let p = c.exponent_for-p.result in
    let code = value_code a.function in
    let r = value_for binary64 n x.matrix.now p code in
    let few = mul-le-mul c.requires.task_room.order c.requires.task_room.order in
    let long : length (take (n * n) c.small_room-first.result) ≡ n * n = length-take-le _ _ (omega (arith, few, c.small_room-first.ensures)) in
    record {
      space = c.requires.task_room.space;
      number = c.requires.task_room.number;
      few = few-reported r v.result.outcome (few-value binary64 n x.matrix.now p code) v.ensures.one_output_with.outcome;
      numbers = omega (arith, few, long, v.auto.x);
    }

pub returns : goal.returns
returns c =
    let a = c.args in
    let x = a.sheet.now in
    let n = x.counts.order in
    let v = c.value-answer in
    let p = c.exponent_for-p in
    let code = value_code a.function in
    let exponent = p.ensures ∙ ap (λ (q : ℕ). exponent_for binary64 x.bytes.now code q) c.exponent_at-q.ensures.0 in
    let r = value_for binary64 n x.matrix.now p.result code in
    let o = v.ensures.one_output_with.outcome in
    let outputs = carried_one r v.result.outcome _ v.new.x o v.ensures.one_output_with.output in
    let numbers = carried_ending r v.result.outcome (v.new.x ++ []) (value_report binary64 n x.matrix.now p.result code) v.result.report o v.ensures.report_value outputs in
    let same = ap (λ (y : Float). ending (value_report binary64 n x.matrix.now y code) (value_for binary64 n x.matrix.now y code)) exponent in
    lined_as binary64 a.task (numbers ∙ same) c.put_answer.ensures
