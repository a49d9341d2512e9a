-- `tasks` meets its contract. Assumes nothing.
use Rattle.std.proofs.Common.{rules, ◌≡◌, ◌+◌, ◌-◌, ◌*◌, sym, ◌∙◌, arith}
use Rattle.sheet_encoding.proofs.ParseLaws.{tasks_none, tasks_more}
use Rattle.sheet_encoding.proofs.parse.tasks.Goals as goal

pub returns-in_err-task : goal.returns-in_err-task
returns-in_err-task c =
    let l = c.loop-k in
    let a = c.args in
    rw (← l.invariant, tasks_more a.s.now (a.q + 2 * l.k) a.d a.e (a.count - l.k) (omega arith)) (search rules)

pub loop-k-preserved : goal.loop-k-preserved
loop-k-preserved c =
    let l = c.loop-k in
    let a = c.args in
    let p : a.q + 2 * (l.k + 1) ≡ a.q + 2 * l.k + 2 = omega arith in
    let k : a.count - (l.k + 1) ≡ a.count - l.k - 1 = omega arith in
    rw (p, k, ← l.invariant, tasks_more a.s.now (a.q + 2 * l.k) a.d a.e (a.count - l.k) (omega arith)) (search rules)

pub returns : goal.returns
returns c =
    let l = c.loop-k in
    let a = c.args in
    let z : a.count - l.k ≡ 0 = omega arith in
    sym (tasks_none a.s.now (a.q + 2 * l.k) a.d a.e) ∙ (rw z at l.invariant)
