-- `ask_compute` meets its contract. Assumes nothing.
use native.Mathlib.Omega.{arith}
use Rattle.arithmetic_questions.proofs.QuestionLaws.{handed_on, told, single, stops, goes_on, all_yes}
use Rattle.lu.proofs.LuQuestionLaws.{square64, compute_asked}
use Rattle.lu.proofs.question.ask_compute.Goals as goal

pub overflow_mul-rows : goal.overflow_mul-rows
overflow_mul-rows g c =
    let a = c.args in
    let e = all_yes (told c.ask_system.result c.ask_system.ensures) c.in_ok-ask_system.was in
    omega (arith, square64 a.rows a.columns e.0 e.1.0)

pub returns-in_err-ask_system : goal.returns-in_err-ask_system
returns-in_err-ask_system g c =
    let a = c.args in
    rw (handed_on c.from_residual.ensures.1 c.in_err-ask_system.was, compute_asked a.rows a.columns (g.T.Real.floats a.a.now) a.pivots.now a.factors a.room, g.met.T.Real.length_law a.a.now)
    (stops _ (told c.ask_system.result c.ask_system.ensures) c.in_err-ask_system.was).asks

pub returns-in_err-ask_length : goal.returns-in_err-ask_length
returns-in_err-ask_length g c =
    let a = c.args in
    rw (handed_on c.from_residual-in_err-ask_length.ensures.1 c.in_err-ask_length.was, compute_asked a.rows a.columns (g.T.Real.floats a.a.now) a.pivots.now a.factors a.room, g.met.T.Real.length_law a.a.now)
    (goes_on (told c.ask_system.result c.ask_system.ensures) c.in_ok-ask_system.was
    (stops _ (single c.ask_length.result c.ask_length.ensures) c.in_err-ask_length.was)).asks

pub returns : goal.returns
returns g c =
    let a = c.args in
    rw (compute_asked a.rows a.columns (g.T.Real.floats a.a.now) a.pivots.now a.factors a.room, g.met.T.Real.length_law a.a.now)
    (goes_on (told c.ask_system.result c.ask_system.ensures) c.in_ok-ask_system.was
    (goes_on (single c.ask_length.result c.ask_length.ensures) c.in_ok-ask_length.was
    (single c.ask_room.result c.ask_room.ensures))).asks
