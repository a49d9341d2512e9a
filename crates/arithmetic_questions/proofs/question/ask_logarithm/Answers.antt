-- `ask_logarithm` meets its contract. Assumes nothing.
use Rattle.arithmetic_questions.proofs.QuestionLaws.{handed_on, single, stops, goes_on}
use Rattle.arithmetic_questions.proofs.question.ask_logarithm.Goals as goal

pub returns-in_err-ask_positive : goal.returns-in_err-ask_positive
returns-in_err-ask_positive g c =
    rw (handed_on c.from_residual.ensures.1 c.in_err-ask_positive.was)
    (stops _ (single c.ask_positive.result c.ask_positive.ensures) c.in_err-ask_positive.was).asks

pub returns : goal.returns
returns g c =
    (goes_on (single c.ask_positive.result c.ask_positive.ensures) c.in_ok-ask_positive.was
    (single c.ask_from_two.result c.ask_from_two.ensures)).asks
