-- `ask_both_at_most` meets its contract. Assumes nothing.
use Rattle.arithmetic_questions.proofs.QuestionLaws.{handed_on, single, stops, goes_on}
use Rattle.functions_kronecker.proofs.question.ask_both_at_most.Goals as goal

pub returns-in_err-ask_at_most : goal.returns-in_err-ask_at_most
returns-in_err-ask_at_most c =
    rw (handed_on c.from_residual.ensures.1 c.in_err-ask_at_most.was)
    (stops _ (single c.ask_at_most.result c.ask_at_most.ensures) c.in_err-ask_at_most.was).asks

pub returns : goal.returns
returns c =
    (goes_on (single c.ask_at_most.result c.ask_at_most.ensures) c.in_ok-ask_at_most.was
    (single c.ask_at_most-2.result c.ask_at_most-2.ensures)).asks
