-- `ask_order` meets its contract. Assumes nothing.
use Rattle.arithmetic_questions.proofs.QuestionLaws.{handed_on, single, stops, goes_on}
use Rattle.lu.proofs.question.ask_order.Goals as goal

pub returns-in_err-ask_square : goal.returns-in_err-ask_square
returns-in_err-ask_square c =
    rw (handed_on c.from_residual.ensures.1 c.in_err-ask_square.was)
    (stops _ (single c.ask_square.result c.ask_square.ensures) c.in_err-ask_square.was).asks

pub returns : goal.returns
returns c =
    (goes_on (single c.ask_square.result c.ask_square.ensures) c.in_ok-ask_square.was
    (single c.ask_at_most.result c.ask_at_most.ensures)).asks
