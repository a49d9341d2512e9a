-- `ask_kron` meets its contract. Assumes nothing.
use native.Mathlib.Omega.{arith}
use Rattle.arithmetic_questions.proofs.QuestionLaws.{handed_on, told, stops, goes_on, all_yes}
use Rattle.functions_kronecker.proofs.KroneckerQuestions.{sized, asked_kron}
use Rattle.functions_kronecker.proofs.question.ask_kron.Goals as goal

pub ask_slices-requires : goal.ask_slices-requires
ask_slices-requires g c =
    let a = c.args in
    let products = c.ask_products in
    let s = sized a.m a.n a.p a.q (all_yes (told products.result products.ensures) c.in_ok-ask_products.was) in
    omega arith

pub returns-in_err-ask_products : goal.returns-in_err-ask_products
returns-in_err-ask_products g c =
    let a = c.args in
    rw (handed_on c.from_residual.ensures.1 c.in_err-ask_products.was, asked_kron a.m a.n (g.T.Real.floats a.a.now) a.p a.q (g.T.Real.floats a.b.now) a.out)
    (stops _ (told c.ask_products.result c.ask_products.ensures) c.in_err-ask_products.was).asks

pub returns : goal.returns
returns g c =
    let a = c.args in
    rw (asked_kron a.m a.n (g.T.Real.floats a.a.now) a.p a.q (g.T.Real.floats a.b.now) a.out, g.met.T.Real.length_law a.a.now, g.met.T.Real.length_law a.b.now)
    (goes_on (told c.ask_products.result c.ask_products.ensures) c.in_ok-ask_products.was
    (told c.ask_slices.result c.ask_slices.ensures)).asks
