-- `ask_frechet_sqrtm` meets its contract. Assumes nothing.
use mathlib.Core.List.{[], ◌∷◌}
use Rattle.arithmetic_questions.specs.Result.{◌>>=◌, first_no}
use Rattle.arithmetic_questions.specs.Questions.{binary, direction, without_exponent, anywhere, nonnegative, every_order}
use Rattle.arithmetic_questions.proofs.QuestionLaws.{handed_on, single, rest_no, rest_asked, accepted_directed}
use Rattle.arithmetic_questions.proofs.question.ask_frechet_sqrtm.Goals as goal

pub returns-in_err-ask_frechet_expm : goal.returns-in_err-ask_frechet_expm
returns-in_err-ask_frechet_expm g c =
    let a = c.args in
    let both = c.ask_frechet_expm in
    rw (handed_on c.from_residual.ensures.1 c.in_err-ask_frechet_expm.was)
    (rest_no direction without_exponent nonnegative every_order (binary a.rows a.columns (g.T.Real.floats a.a.now) a.height a.width (g.T.Real.floats a.e.now) (a.first ∷ a.second ∷ []) a.room) both.result both.ensures
    c.in_err-ask_frechet_expm.was)

pub ask_nonnegative-requires : goal.ask_nonnegative-requires
ask_nonnegative-requires g c =
    let a = c.args in
    let both = c.ask_frechet_expm in
    rw (g.met.T.Real.length_law a.a.now) at (accepted_directed without_exponent anywhere every_order (binary a.rows a.columns (g.T.Real.floats a.a.now) a.height a.width (g.T.Real.floats a.e.now) (a.first ∷ a.second ∷ []) a.room) both.result both.ensures
    c.in_ok-ask_frechet_expm.was).0.shape.some

pub returns : goal.returns
unfolding first_no ◌>>=◌
returns g c =
    let a = c.args in
    let both = c.ask_frechet_expm in
    rest_asked direction without_exponent nonnegative every_order (binary a.rows a.columns (g.T.Real.floats a.a.now) a.height a.width (g.T.Real.floats a.e.now) (a.first ∷ a.second ∷ []) a.room) both.result both.ensures c.ask_nonnegative.result
    c.in_ok-ask_frechet_expm.was (single c.ask_nonnegative.result c.ask_nonnegative.ensures).asks
