-- `ask_lengths` meets its contract. Assumes nothing.
use Rattle.arithmetic_questions.proofs.QuestionLaws.{single, asked_both}
use Rattle.arithmetic_questions.proofs.question.ask_lengths.Goals as goal

pub returns : goal.returns
returns c =
    (asked_both (asked_both (single c.ask_length.result c.ask_length.ensures) (single c.ask_length-2.result c.ask_length-2.ensures) c.and-lengths.ensures)
    (single c.ask_room.result c.ask_room.ensures) c.and.ensures).asks
