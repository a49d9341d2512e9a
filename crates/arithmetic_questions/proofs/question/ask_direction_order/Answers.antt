-- `ask_direction_order` meets its contract. Assumes nothing.
use Rattle.arithmetic_questions.proofs.QuestionLaws.{handed_on, told, single, stops, goes_on}
use Rattle.arithmetic_questions.proofs.question.ask_direction_order.Goals as goal

pub returns-in_err-ask_order : goal.returns-in_err-ask_order
returns-in_err-ask_order c =
    rw (handed_on c.from_residual.ensures.1 c.in_err-ask_order.was)
    (stops _ (told c.ask_order.result c.ask_order.ensures) c.in_err-ask_order.was).asks

pub returns-in_err-ask_direction_fits : goal.returns-in_err-ask_direction_fits
returns-in_err-ask_direction_fits c =
    rw (handed_on c.from_residual-in_err-ask_direction_fits.ensures.1 c.in_err-ask_direction_fits.was)
    (goes_on (told c.ask_order.result c.ask_order.ensures) c.in_ok-ask_order.was
    (stops _ (single c.ask_direction_fits.result c.ask_direction_fits.ensures) c.in_err-ask_direction_fits.was)).asks

pub returns : goal.returns
returns c =
    (goes_on (told c.ask_order.result c.ask_order.ensures) c.in_ok-ask_order.was
    (goes_on (single c.ask_direction_fits.result c.ask_direction_fits.ensures) c.in_ok-ask_direction_fits.was
    (single c.ask_at_most.result c.ask_at_most.ensures))).asks
