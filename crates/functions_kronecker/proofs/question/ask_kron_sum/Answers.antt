-- `ask_kron_sum` meets its contract. Assumes nothing.
use mathlib.Core.Path.{◌∙◌}
use Rattle.arithmetic_questions.proofs.QuestionLaws.{told, single, asked_both}
use Rattle.functions_kronecker.proofs.KroneckerQuestions.{asked_kron, asked_kron_sum}
use Rattle.functions_kronecker.proofs.question.ask_kron_sum.Goals as goal

pub returns : goal.returns
returns g c =
    let a = c.args in
    let products = c.ask_kron-products in
    rw (asked_kron_sum a.m a.n (g.T.Real.floats a.a.now) a.p a.q (g.T.Real.floats a.b.now) a.out)
    (asked_both (asked_both (single c.ask_square.result c.ask_square.ensures) (single c.ask_second_square.result c.ask_second_square.ensures) c.and-squares.ensures)
    (told products.result (products.ensures ∙ asked_kron a.m a.n (g.T.Real.floats a.a.now) a.p a.q (g.T.Real.floats a.b.now) a.out))
    c.and.ensures).asks
