-- `ask_matrix_order` meets its contract. Assumes nothing.
use Rattle.arithmetic_questions.proofs.QuestionLaws.{handed_on, told, single, stops, goes_on}
use Rattle.arithmetic_questions.proofs.question.ask_matrix_order.Goals as goal

pub returns-in_err-ask_order : goal.returns-in_err-ask_order
returns-in_err-ask_order c =
    rw (handed_on c.from_residual.ensures.1 c.in_err-ask_order.was)
    (stops _ (told c.ask_order.result c.ask_order.ensures) c.in_err-ask_order.was).asks

pub returns : goal.returns
returns c =
    (goes_on (told c.ask_order.result c.ask_order.ensures) c.in_ok-ask_order.was
    (single c.ask_at_most.result c.ask_at_most.ensures)).asks
