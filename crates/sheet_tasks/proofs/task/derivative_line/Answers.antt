-- `derivative_line` meets its contract. Assumes nothing.
use mathlib.Core.Path.{◌≡◌, ap, ◌∙◌}
use mathlib.Core.List.{List, ◌++◌}
use lib.ListN.{length, take}
use lib.Seq.{length-take-le}
use lib.Ieee.{Float, binary64}
use Prim.Native.Nat.{ℕ, ◌*◌}
use Rattle.sheet_encoding.specs.Bytes.{numbers_at}
use Rattle.sheet_tasks.specs.Tasks.{derivative_for, derivative_report, both, ending}
use Rattle.sheet_tasks.specs.Functions.{derivative_code}
use Rattle.sheet_tasks.proofs.FewLaws.{few-derivative, few-reported}
use Rattle.sheet_tasks.proofs.TaskLaws.{carried_both, carried_ending, lined_as}
use native.Mathlib.Nat.{mul-le-mul}
use native.Mathlib.Omega.{arith}
use Rattle.sheet_tasks.proofs.task.derivative_line.Goals as goal

pub put_answer-requires : goal.put_answer-requires
put_answer-requires c =
    let a = c.args in
    let x = a.sheet.now in
    let n = x.counts.order in
    let v = c.derivative-answer in
    let e = c.read_numbers.new.m in
    let code = derivative_code a.function in
    let few = mul-le-mul c.requires.task_room.order c.requires.task_room.order in
    let first : length (take (n * n) c.small_room-first.result) ≡ n * n = length-take-le _ _ (omega (arith, few, c.small_room-first.ensures)) in
    let second : length (take (n * n) c.small_room-second.result) ≡ n * n = length-take-le _ _ (omega (arith, few, c.small_room-second.ensures)) in
    record {
      space = c.requires.task_room.space;
      number = c.requires.task_room.number;
      few = few-reported (derivative_for binary64 n x.matrix.now e code) v.result.outcome (few-derivative binary64 n x.matrix.now e code) v.ensures.two_outputs_with.outcome;
      numbers = omega (arith, few, first, second, v.auto.x, v.auto.y);
    }

pub returns : goal.returns
returns c =
    let a = c.args in
    let x = a.sheet.now in
    let n = x.counts.order in
    let v = c.derivative-answer in
    let r = c.read_numbers in
    let e = r.new.m in
    let code = derivative_code a.function in
    let long : length (take (n * n) c.small_room-direction.result) ≡ n * n = length-take-le _ _ (omega (arith, mul-le-mul c.requires.task_room.order c.requires.task_room.order, c.small_room-direction.ensures)) in
    let at = ap (λ (q : ℕ). numbers_at binary64 x.bytes.now q (n * n)) c.direction_at.ensures.0 in
    let read = r.ensures ∙ ap (λ (k : ℕ). numbers_at binary64 x.bytes.now c.direction_at.result k) long ∙ at in
    let d = derivative_for binary64 n x.matrix.now e code in
    let o = v.ensures.two_outputs_with.outcome in
    let outputs = carried_both d v.result.outcome _ v.new.x _ v.new.y o v.ensures.two_outputs_with.value v.ensures.two_outputs_with.derivative in
    let numbers = carried_ending d v.result.outcome (v.new.x ++ v.new.y) (derivative_report binary64 n x.matrix.now e code) v.result.report o v.ensures.report_value outputs in
    let same = ap (λ (y : List Float). ending (derivative_report binary64 n x.matrix.now y code) (both (derivative_for binary64 n x.matrix.now y code))) read in
    lined_as binary64 a.task (numbers ∙ same) c.put_answer.ensures
