-- `ask_system` meets its contract. Assumes nothing.
use native.Mathlib.Omega.{arith}
use Rattle.arithmetic_questions.proofs.QuestionLaws.{handed_on, told, single, stops, goes_on, all_yes}
use Rattle.lu.proofs.LuQuestionLaws.{square64}
use Rattle.lu.proofs.question.ask_system.Goals as goal

pub overflow_mul-rows : goal.overflow_mul-rows
overflow_mul-rows c =
    let a = c.args in
    let e = all_yes (told c.ask_order.result c.ask_order.ensures) c.in_ok-ask_order.was in
    omega (arith, square64 a.rows a.columns e.0 e.1.0)

pub returns-in_err-ask_order : goal.returns-in_err-ask_order
returns-in_err-ask_order c =
    rw (handed_on c.from_residual.ensures.1 c.in_err-ask_order.was)
    (stops _ (told c.ask_order.result c.ask_order.ensures) c.in_err-ask_order.was).asks

pub returns-in_err-ask_length : goal.returns-in_err-ask_length
returns-in_err-ask_length c =
    rw (handed_on c.from_residual-in_err-ask_length.ensures.1 c.in_err-ask_length.was)
    (goes_on (told c.ask_order.result c.ask_order.ensures) c.in_ok-ask_order.was
    (stops _ (single c.ask_length.result c.ask_length.ensures) c.in_err-ask_length.was)).asks

pub returns : goal.returns
returns c =
    (goes_on (told c.ask_order.result c.ask_order.ensures) c.in_ok-ask_order.was
    (goes_on (single c.ask_length.result c.ask_length.ensures) c.in_ok-ask_length.was
    (single c.ask_length-2.result c.ask_length-2.ensures))).asks
