-- `ask_shapes` meets its contract. Assumes nothing.
use native.Mathlib.Omega.{arith}
use Rattle.arithmetic_questions.proofs.QuestionLaws.{handed_on, told, single, stops, goes_on, all_yes}
use Rattle.lu.proofs.LuQuestionLaws.{sides64}
use Rattle.lu.proofs.question.ask_shapes.Goals as goal

pub overflow_mul-rows : goal.overflow_mul-rows
overflow_mul-rows c =
    let a = c.args in
    omega (arith, (sides64 a.rows a.columns a.height a.width (all_yes (told c.ask_sides.result c.ask_sides.ensures) c.in_ok-ask_sides.was)).0)

pub overflow_mul-height : goal.overflow_mul-height
overflow_mul-height c =
    let a = c.args in
    omega (arith, (sides64 a.rows a.columns a.height a.width (all_yes (told c.ask_sides.result c.ask_sides.ensures) c.in_ok-ask_sides.was)).1)

pub overflow_mul-rows-2 : goal.overflow_mul-rows-2
overflow_mul-rows-2 c =
    let a = c.args in
    omega (arith, (sides64 a.rows a.columns a.height a.width (all_yes (told c.ask_sides.result c.ask_sides.ensures) c.in_ok-ask_sides.was)).2)

pub returns-in_err-ask_sides : goal.returns-in_err-ask_sides
returns-in_err-ask_sides c =
    rw (handed_on c.from_residual.ensures.1 c.in_err-ask_sides.was)
    (stops _ (told c.ask_sides.result c.ask_sides.ensures) c.in_err-ask_sides.was).asks

pub returns-in_err-ask_length : goal.returns-in_err-ask_length
returns-in_err-ask_length c =
    rw (handed_on c.from_residual-in_err-ask_length.ensures.1 c.in_err-ask_length.was)
    (goes_on (told c.ask_sides.result c.ask_sides.ensures) c.in_ok-ask_sides.was
    (stops _ (single c.ask_length.result c.ask_length.ensures) c.in_err-ask_length.was)).asks

pub returns-in_err-ask_length-2 : goal.returns-in_err-ask_length-2
returns-in_err-ask_length-2 c =
    rw (handed_on c.from_residual-in_err-ask_length-2.ensures.1 c.in_err-ask_length-2.was)
    (goes_on (told c.ask_sides.result c.ask_sides.ensures) c.in_ok-ask_sides.was
    (goes_on (single c.ask_length.result c.ask_length.ensures) c.in_ok-ask_length.was
    (stops _ (single c.ask_length-2.result c.ask_length-2.ensures) c.in_err-ask_length-2.was))).asks

pub returns-in_err-ask_length-3 : goal.returns-in_err-ask_length-3
returns-in_err-ask_length-3 c =
    rw (handed_on c.from_residual-in_err-ask_length-3.ensures.1 c.in_err-ask_length-3.was)
    (goes_on (told c.ask_sides.result c.ask_sides.ensures) c.in_ok-ask_sides.was
    (goes_on (single c.ask_length.result c.ask_length.ensures) c.in_ok-ask_length.was
    (goes_on (single c.ask_length-2.result c.ask_length-2.ensures) c.in_ok-ask_length-2.was
    (stops _ (single c.ask_length-3.result c.ask_length-3.ensures) c.in_err-ask_length-3.was)))).asks

pub returns : goal.returns
returns c =
    (goes_on (told c.ask_sides.result c.ask_sides.ensures) c.in_ok-ask_sides.was
    (goes_on (single c.ask_length.result c.ask_length.ensures) c.in_ok-ask_length.was
    (goes_on (single c.ask_length-2.result c.ask_length-2.ensures) c.in_ok-ask_length-2.was
    (goes_on (single c.ask_length-3.result c.ask_length-3.ensures) c.in_ok-ask_length-3.was
    (single c.ask_length-4.result c.ask_length-4.ensures))))).asks
