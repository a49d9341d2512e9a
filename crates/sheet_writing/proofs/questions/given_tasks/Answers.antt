-- `given_tasks` meets its contract. Assumes nothing.
use Rattle.std.proofs.Common.{rules, ◌≡◌, ◌+◌, ◌-◌, ◌*◌, sym, ◌∙◌, arith}
use Rattle.sheet_writing.proofs.QuestionLaws.{given_tasks_none, given_tasks_more}
use Rattle.sheet_writing.proofs.questions.given_tasks.Goals as goal

pub returns-in_err-given_task : goal.returns-in_err-given_task
returns-in_err-given_task c =
    let l = c.loop-k in
    let a = c.args in
    rw (← l.invariant, given_tasks_more a.task.now a.q a.d a.e (2 * l.k) (a.count - l.k) (omega arith)) (search rules)

pub loop-k-preserved : goal.loop-k-preserved
loop-k-preserved c =
    let l = c.loop-k in
    let a = c.args in
    let j : 2 * (l.k + 1) ≡ 2 * l.k + 2 = omega arith in
    let k : a.count - (l.k + 1) ≡ a.count - l.k - 1 = omega arith in
    rw (j, k, ← l.invariant, given_tasks_more a.task.now a.q a.d a.e (2 * l.k) (a.count - l.k) (omega arith)) (search rules)

pub returns : goal.returns
returns c =
    let l = c.loop-k in
    let a = c.args in
    let z : a.count - l.k ≡ 0 = omega arith in
    sym (given_tasks_none a.task.now a.q a.d a.e (2 * l.k)) ∙ (rw z at l.invariant)
