-- `ask_expm` meets its contract. Assumes nothing.
use mathlib.Core.List.{[], ◌∷◌}
use Rattle.arithmetic_questions.specs.Result.{◌>>=◌, first_no}
use Rattle.arithmetic_questions.specs.Questions.{unary, without_companion, without_exponent, anywhere, orders_from_two}
use Rattle.arithmetic_questions.proofs.QuestionLaws.{handed_on, single, rest_no, rest_asked}
use Rattle.arithmetic_questions.proofs.question.ask_expm.Goals as goal

pub returns-in_err-ask_matrix : goal.returns-in_err-ask_matrix
returns-in_err-ask_matrix g c =
    let a = c.args in
    let matrix = c.ask_matrix in
    rw (handed_on c.from_residual.ensures.1 c.in_err-ask_matrix.was)
    (rest_no without_companion without_exponent anywhere orders_from_two (unary a.rows a.columns (g.T.Real.floats a.a.now) (a.out ∷ []) a.room) matrix.result matrix.ensures c.in_err-ask_matrix.was)

pub returns : goal.returns
unfolding first_no ◌>>=◌
returns g c =
    let a = c.args in
    let matrix = c.ask_matrix in
    rest_asked without_companion without_exponent anywhere orders_from_two (unary a.rows a.columns (g.T.Real.floats a.a.now) (a.out ∷ []) a.room) matrix.result matrix.ensures c.ask_from_two.result c.in_ok-ask_matrix.was
    (single c.ask_from_two.result c.ask_from_two.ensures).asks
