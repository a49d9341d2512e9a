-- `ask_sqrtm` meets its contract. Assumes nothing.
use mathlib.Core.List.{[], ◌∷◌}
use Rattle.arithmetic_questions.specs.Result.{◌>>=◌, first_no}
use Rattle.arithmetic_questions.specs.Questions.{unary, without_companion, without_exponent, anywhere, nonnegative, every_order}
use Rattle.arithmetic_questions.proofs.QuestionLaws.{handed_on, single, rest_no, rest_asked, accepted}
use Rattle.arithmetic_questions.proofs.question.ask_sqrtm.Goals as goal

pub returns-in_err-ask_matrix : goal.returns-in_err-ask_matrix
returns-in_err-ask_matrix g c =
    let a = c.args in
    let matrix = c.ask_matrix in
    rw (handed_on c.from_residual.ensures.1 c.in_err-ask_matrix.was)
    (rest_no without_companion without_exponent nonnegative every_order (unary a.rows a.columns (g.T.Real.floats a.a.now) (a.out ∷ []) a.room) matrix.result matrix.ensures c.in_err-ask_matrix.was)

pub ask_nonnegative-requires : goal.ask_nonnegative-requires
ask_nonnegative-requires g c =
    let a = c.args in
    let matrix = c.ask_matrix in
    rw (g.met.T.Real.length_law a.a.now) at (accepted without_exponent anywhere every_order (unary a.rows a.columns (g.T.Real.floats a.a.now) (a.out ∷ []) a.room) matrix.result matrix.ensures c.in_ok-ask_matrix.was).shape.some

pub returns : goal.returns
unfolding first_no ◌>>=◌
returns g c =
    let a = c.args in
    let matrix = c.ask_matrix in
    rest_asked without_companion without_exponent nonnegative every_order (unary a.rows a.columns (g.T.Real.floats a.a.now) (a.out ∷ []) a.room) matrix.result matrix.ensures c.ask_nonnegative.result c.in_ok-ask_matrix.was
    (single c.ask_nonnegative.result c.ask_nonnegative.ensures).asks
