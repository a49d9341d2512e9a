-- `ask_sizes` meets its contract. Assumes nothing.
use Rattle.arithmetic_questions.proofs.QuestionLaws.{handed_on, told, stops, goes_on}
use Rattle.functions_kronecker.proofs.question.ask_sizes.Goals as goal

pub returns-in_err-ask_both_at_most : goal.returns-in_err-ask_both_at_most
returns-in_err-ask_both_at_most c =
    rw (handed_on c.from_residual.ensures.1 c.in_err-ask_both_at_most.was)
    (stops _ (told c.ask_both_at_most.result c.ask_both_at_most.ensures) c.in_err-ask_both_at_most.was).asks

pub returns : goal.returns
returns c =
    (goes_on (told c.ask_both_at_most.result c.ask_both_at_most.ensures) c.in_ok-ask_both_at_most.was
    (told c.ask_both_at_most-2.result c.ask_both_at_most-2.ensures)).asks
