-- `ask_determinant` meets its contract. Assumes nothing.
use Rattle.arithmetic_questions.proofs.QuestionLaws.{handed_on, told, single, stops, goes_on}
use Rattle.lu.proofs.LuQuestionLaws.{determinant_asked}
use Rattle.lu.proofs.question.ask_determinant.Goals as goal

pub returns-in_err-ask_system : goal.returns-in_err-ask_system
returns-in_err-ask_system g c =
    let a = c.args in
    rw (handed_on c.from_residual.ensures.1 c.in_err-ask_system.was, determinant_asked a.rows a.columns (g.T.Real.floats a.f.now) a.pivots.now, g.met.T.Real.length_law a.f.now)
    (stops _ (told c.ask_system.result c.ask_system.ensures) c.in_err-ask_system.was).asks

pub returns : goal.returns
returns g c =
    let a = c.args in
    rw (determinant_asked a.rows a.columns (g.T.Real.floats a.f.now) a.pivots.now, g.met.T.Real.length_law a.f.now)
    (goes_on (told c.ask_system.result c.ask_system.ensures) c.in_ok-ask_system.was
    (single c.ask_pivots.result c.ask_pivots.ensures)).asks
