-- `run_tasks` meets its contract: after k tasks their k lines are written, of at most `line_limit` bytes each. Assumes nothing.
use Prim.Native.Nat.{◌*◌}
use mathlib.Core.Path.{ap, ◌∙◌}
use lib.ListN.{length}
use lib.Ieee.{binary64}
use Rattle.sheet_encoding.proofs.BytesLaws.{length-numbers_at}
use Rattle.sheet_encoding.proofs.WroteLaws.{wrote_none, wrote_more}
use Rattle.sheet.proofs.SheetLaws.{lines_none, lines_more}
use native.Mathlib.Omega.{arith}
use Rattle.sheet.proofs.run.run_tasks.Goals as goal

pub loop-k-init : goal.loop-k-init
loop-k-init c = (omega arith, rw lines_none (wrote_none _ 0 (omega arith)))

pub overflow_add-q : goal.overflow_add-q
overflow_add-q c = omega (arith, (c.requires.ready c.loop-k.k c.loop-k-test.true).there)

pub run_task-at-requires-clause-task_room : goal.run_task-at-requires-clause-task_room
run_task-at-requires-clause-task_room c =
    let x = c.args.sheet.now in
    let l = c.loop-k in
    let room = c.requires in
    record {
      space = omega (arith, room.few, room.space, l.invariant.0, l.auto.out);
      number = omega (arith, room.few);
      order = room.order;
      matrix = ap length room.matrix ∙ length-numbers_at binary64 x.bytes.now 1 (x.counts.order * x.counts.order);
      workspace = l.auto.w ∙ room.workspace;
    }

pub run_task-at-requires-clause-task_ready : goal.run_task-at-requires-clause-task_ready
run_task-at-requires-clause-task_ready c = c.requires.ready c.loop-k.k c.loop-k-test.true

pub loop-k-preserved : goal.loop-k-preserved
loop-k-preserved c =
    let x = c.args.sheet.now in
    let l = c.loop-k in
    let r = c.run_task-at.ensures in
    (omega (arith, l.invariant.0, r.short), rw (lines_more binary64 x.bytes.now x.counts.order x.counts.directions c.args.q l.k) (wrote_more l.invariant.1 r.wrote))
