-- `ask_products` meets its contract. Assumes nothing.
use native.Mathlib.Nat.{mul-le-mul}
use native.Mathlib.Omega.{arith}
use Rattle.arithmetic_questions.proofs.QuestionLaws.{handed_on, told, stops, goes_on, all_yes, at_most_yes}
use Rattle.functions_kronecker.proofs.question.ask_products.Goals as goal

pub overflow_mul-m : goal.overflow_mul-m
overflow_mul-m c =
    let a = c.args in
    let sizes = c.ask_sizes in
    let s = all_yes (told sizes.result sizes.ensures) c.in_ok-ask_sizes.was in
    omega (arith, mul-le-mul (at_most_yes 64 a.m s.0) (at_most_yes 64 a.p s.1.1.0))

pub overflow_mul-n : goal.overflow_mul-n
overflow_mul-n c =
    let a = c.args in
    let sizes = c.ask_sizes in
    let s = all_yes (told sizes.result sizes.ensures) c.in_ok-ask_sizes.was in
    omega (arith, mul-le-mul (at_most_yes 64 a.n s.1.0) (at_most_yes 64 a.q s.1.1.1.0))

pub returns-in_err-ask_sizes : goal.returns-in_err-ask_sizes
returns-in_err-ask_sizes c =
    rw (handed_on c.from_residual.ensures.1 c.in_err-ask_sizes.was)
    (stops _ (told c.ask_sizes.result c.ask_sizes.ensures) c.in_err-ask_sizes.was).asks

pub returns : goal.returns
returns c =
    (goes_on (told c.ask_sizes.result c.ask_sizes.ensures) c.in_ok-ask_sizes.was
    (told c.ask_both_at_most.result c.ask_both_at_most.ensures)).asks
