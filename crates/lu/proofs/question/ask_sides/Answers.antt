-- `ask_sides` meets its contract. Assumes nothing.
use Rattle.arithmetic_questions.proofs.QuestionLaws.{handed_on, single, stops, goes_on}
use Rattle.lu.proofs.question.ask_sides.Goals as goal

pub returns-in_err-ask_square : goal.returns-in_err-ask_square
returns-in_err-ask_square c =
    rw (handed_on c.from_residual.ensures.1 c.in_err-ask_square.was)
    (stops _ (single c.ask_square.result c.ask_square.ensures) c.in_err-ask_square.was).asks

pub returns-in_err-ask : goal.returns-in_err-ask
returns-in_err-ask c =
    rw (handed_on c.from_residual-in_err-ask.ensures.1 c.in_err-ask.was)
    (goes_on (single c.ask_square.result c.ask_square.ensures) c.in_ok-ask_square.was
    (stops _ (single c.ask.result c.ask.ensures) c.in_err-ask.was)).asks

pub returns-in_err-ask_at_most : goal.returns-in_err-ask_at_most
returns-in_err-ask_at_most c =
    rw (handed_on c.from_residual-in_err-ask_at_most.ensures.1 c.in_err-ask_at_most.was)
    (goes_on (single c.ask_square.result c.ask_square.ensures) c.in_ok-ask_square.was
    (goes_on (single c.ask.result c.ask.ensures) c.in_ok-ask.was
    (stops _ (single c.ask_at_most.result c.ask_at_most.ensures) c.in_err-ask_at_most.was))).asks

pub returns : goal.returns
returns c =
    (goes_on (single c.ask_square.result c.ask_square.ensures) c.in_ok-ask_square.was
    (goes_on (single c.ask.result c.ask.ensures) c.in_ok-ask.was
    (goes_on (single c.ask_at_most.result c.ask_at_most.ensures) c.in_ok-ask_at_most.was
    (single c.ask_at_most-2.result c.ask_at_most-2.ensures)))).asks
