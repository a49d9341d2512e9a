-- `ask_solve` meets its contract. Assumes nothing.
use Rattle.arithmetic_questions.proofs.QuestionLaws.{handed_on, told, single, stops, goes_on}
use Rattle.lu.proofs.LuQuestionLaws.{solve_asked}
use Rattle.lu.proofs.question.ask_solve.Goals as goal

pub returns-in_err-ask_shapes : goal.returns-in_err-ask_shapes
returns-in_err-ask_shapes g c =
    let a = c.args in
    rw (handed_on c.from_residual.ensures.1 c.in_err-ask_shapes.was, solve_asked a.rows a.columns (g.T.Real.floats a.f.now) a.pivots.now a.height a.width (g.T.Real.floats a.b.now) a.out, g.met.T.Real.length_law a.f.now, g.met.T.Real.length_law a.b.now)
    (stops _ (told c.ask_shapes.result c.ask_shapes.ensures) c.in_err-ask_shapes.was).asks

pub returns : goal.returns
returns g c =
    let a = c.args in
    rw (solve_asked a.rows a.columns (g.T.Real.floats a.f.now) a.pivots.now a.height a.width (g.T.Real.floats a.b.now) a.out, g.met.T.Real.length_law a.f.now, g.met.T.Real.length_law a.b.now)
    (goes_on (told c.ask_shapes.result c.ask_shapes.ensures) c.in_ok-ask_shapes.was
    (single c.ask_pivots.result c.ask_pivots.ensures)).asks
