-- `run_task` meets its contract. Assumes nothing.
use Prim.Native.Nat.{◌+◌}
use lib.Ieee.{binary64}
use Rattle.sheet_encoding.specs.Bytes.{byte_at}
use Rattle.sheet_tasks.proofs.TaskLaws.{value_task, derivative_task, condition_task, lined_as}
use Rattle.sheet_tasks.proofs.task.run_task.Goals as goal

pub returns-in-Value : goal.returns-in-Value
returns-in-Value c =
    let a = c.args in
    let x = a.sheet.now in
    lined_as binary64 a.task (value_task x (byte_at x.bytes.now a.q) (byte_at x.bytes.now (a.q + 1)) c.requires.sheet_matrix c.in-Value.function (rw c.in-Value.is at c.from.ensures)) c.value_line.ensures

pub returns-in-Derivative : goal.returns-in-Derivative
returns-in-Derivative c =
    let a = c.args in
    let x = a.sheet.now in
    lined_as binary64 a.task (derivative_task x (byte_at x.bytes.now a.q) (byte_at x.bytes.now (a.q + 1)) c.requires.sheet_matrix c.in-Derivative.function (rw c.in-Derivative.is at c.from.ensures)) c.derivative_line.ensures

pub returns-in-CondExpm : goal.returns-in-CondExpm
returns-in-CondExpm c =
    let a = c.args in
    let x = a.sheet.now in
    lined_as binary64 a.task (condition_task x (byte_at x.bytes.now a.q) (byte_at x.bytes.now (a.q + 1)) c.requires.sheet_matrix (rw c.in-CondExpm.is at c.from.ensures)) c.condition_line.ensures
