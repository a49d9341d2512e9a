-- `ask_slices` meets its contract. Assumes nothing.
use native.Mathlib.Nat.{mul-le-mul}
use native.Mathlib.Omega.{arith}
use Rattle.arithmetic_questions.proofs.QuestionLaws.{handed_on, single, stops, goes_on}
use Rattle.functions_kronecker.proofs.question.ask_slices.Goals as goal

pub overflow_mul-m : goal.overflow_mul-m
overflow_mul-m g c =
    let pre = c.requires in
    omega (arith, mul-le-mul pre.0 pre.1)

pub overflow_mul-p : goal.overflow_mul-p
overflow_mul-p g c =
    let pre = c.requires in
    omega (arith, mul-le-mul pre.2 pre.3)

pub overflow_mul-m-3 : goal.overflow_mul-m-3
overflow_mul-m-3 g c =
    let pre = c.requires in
    omega (arith, mul-le-mul pre.4 pre.5)

pub returns-in_err-ask_length : goal.returns-in_err-ask_length
returns-in_err-ask_length g c =
    rw (handed_on c.from_residual.ensures.1 c.in_err-ask_length.was)
    (stops _ (single c.ask_length.result c.ask_length.ensures) c.in_err-ask_length.was).asks

pub returns-in_err-ask_length-2 : goal.returns-in_err-ask_length-2
returns-in_err-ask_length-2 g c =
    rw (handed_on c.from_residual-in_err-ask_length-2.ensures.1 c.in_err-ask_length-2.was)
    (goes_on (single c.ask_length.result c.ask_length.ensures) c.in_ok-ask_length.was
    (stops _ (single c.ask_length-2.result c.ask_length-2.ensures) c.in_err-ask_length-2.was)).asks

pub returns : goal.returns
returns g c =
    (goes_on (single c.ask_length.result c.ask_length.ensures) c.in_ok-ask_length.was
    (goes_on (single c.ask_length-2.result c.ask_length-2.ensures) c.in_ok-ask_length-2.was
    (single c.ask_length-3.result c.ask_length-3.ensures))).asks
