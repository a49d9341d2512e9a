-- `ask_order` meets its contract. Assumes nothing.
use Rattle.arithmetic_questions.proofs.QuestionLaws.{handed_on, single, stops, goes_on}
use Rattle.arithmetic_questions.proofs.question.ask_order.Goals as goal

pub returns-in_err-ask_rows : goal.returns-in_err-ask_rows
returns-in_err-ask_rows c =
    rw (handed_on c.from_residual.ensures.1 c.in_err-ask_rows.was)
    (stops _ (single c.ask_rows.result c.ask_rows.ensures) c.in_err-ask_rows.was).asks

pub returns : goal.returns
returns c =
    (goes_on (single c.ask_rows.result c.ask_rows.ensures) c.in_ok-ask_rows.was
    (single c.ask_square.result c.ask_square.ensures)).asks
