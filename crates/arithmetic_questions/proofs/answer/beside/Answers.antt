-- `beside` meets its contract, by the first part's `settled`. Assumes nothing.
use mathlib.Core.Path.{sym, ap, ◌∙◌}
use Prim.Native.Nat.{◌+◌}
use mathlib.Core.Bool.{Bool, ◌&&◌}
use Rattle.arithmetic_questions.proofs.answer.beside.Goals as goal

pub returns-then-a : goal.returns-then-a
returns-then-a c = λ i. record { smallest = c.smaller.ensures i; steps = c.args.a.steps + c.args.b.steps; settled = sym c.if-a.true i && c.args.b.settled }

pub returns-else-a : goal.returns-else-a
returns-else-a c =
    let no = c.if-a.false in
    let settled = no ∙ ap (λ (b : Bool). b && c.args.b.settled) (sym no) in
    λ i. record { smallest = c.smaller.ensures i; steps = c.args.a.steps + c.args.b.steps; settled = settled i }
