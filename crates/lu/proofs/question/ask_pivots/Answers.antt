-- `ask_pivots` meets its contract. The loop's invariant: the question is that of the pivots from k on. Assumes nothing.
use native.Mathlib.Omega.{arith}
use mathlib.Core.Path.{refl, sym, ◌∙◌}
use Rattle.lu.proofs.LuQuestionLaws.{pivots_more, pivots_stop, pivots_end}
use Rattle.lu.proofs.question.ask_pivots.Goals as goal

pub returns-then-not-names_row : goal.returns-then-not-names_row
returns-then-not-names_row c =
    let l = c.loop-k in
    let a = c.args in
    sym (l.invariant.1 ∙ pivots_stop a.n a.pivots.now l.k (omega arith) (sym c.names_row.ensures ∙ c.if-not-names_row.true))

pub loop-k-preserved : goal.loop-k-preserved
loop-k-preserved c =
    let l = c.loop-k in
    let a = c.args in
    (omega arith, l.invariant.1 ∙ pivots_more a.n a.pivots.now l.k (omega arith) (sym c.names_row.ensures ∙ c.if-not-names_row.false))

pub returns : goal.returns
returns c =
    let l = c.loop-k in
    let a = c.args in
    sym (l.invariant.1 ∙ pivots_end a.n a.pivots.now l.k (omega arith))

pub loop-k-init : goal.loop-k-init
loop-k-init c = (omega arith, refl)
