-- `ask_powm` meets its contract. Assumes nothing.
use mathlib.Core.List.{[], ◌∷◌}
use lib.Dec.{leb}
use Rattle.arithmetic_questions.specs.Result.{◌>>=◌, passes, ask, first_no}
use Rattle.arithmetic_questions.specs.Questions.{powered, asked, without_companion, with_exponent, anywhere, orders_from_two}
use Rattle.arithmetic_questions.proofs.QuestionLaws.{handed_on, single, rest_no, rest_asked, stops, goes_on}
use Rattle.arithmetic_questions.proofs.question.ask_powm.Goals as goal

pub returns-in_err-ask_matrix : goal.returns-in_err-ask_matrix
unfolding asked
returns-in_err-ask_matrix g c =
    let a = c.args in
    let matrix = c.ask_matrix in
    rw (handed_on c.from_residual.ensures.1 c.in_err-ask_matrix.was)
    (rest_no without_companion with_exponent anywhere orders_from_two (powered a.rows a.columns (g.T.Real.floats a.a.now) (g.T.Real.float a.p) (a.out ∷ []) a.room) matrix.result matrix.ensures c.in_err-ask_matrix.was)

pub returns-in_err-ask_exponent : goal.returns-in_err-ask_exponent
unfolding first_no ◌>>=◌ asked
returns-in_err-ask_exponent g c =
    let a = c.args in
    let matrix = c.ask_matrix in
    let exponent = c.ask_exponent in
    rw (handed_on c.from_residual-in_err-ask_exponent.ensures.1 c.in_err-ask_exponent.was)
    (rest_asked without_companion with_exponent anywhere orders_from_two (powered a.rows a.columns (g.T.Real.floats a.a.now) (g.T.Real.float a.p) (a.out ∷ []) a.room) matrix.result matrix.ensures exponent.result
    c.in_ok-ask_matrix.was
    (stops (passes ∷ ask (leb 2 a.rows) 11 0 0 ∷ []) (single exponent.result exponent.ensures) c.in_err-ask_exponent.was).asks)

pub returns : goal.returns
unfolding first_no ◌>>=◌ asked
returns g c =
    let a = c.args in
    let matrix = c.ask_matrix in
    let exponent = c.ask_exponent in
    let two = c.ask_from_two in
    rest_asked without_companion with_exponent anywhere orders_from_two (powered a.rows a.columns (g.T.Real.floats a.a.now) (g.T.Real.float a.p) (a.out ∷ []) a.room) matrix.result matrix.ensures two.result
    c.in_ok-ask_matrix.was
    (goes_on (single exponent.result exponent.ensures) c.in_ok-ask_exponent.was (single two.result two.ensures)).asks
