-- `ask_shape` meets its contract. Assumes nothing.
use native.Mathlib.Omega.{arith}
use Rattle.arithmetic_floats.specs.Float.{+zero}
use Rattle.arithmetic_questions.specs.Questions.{without_exponent, anywhere, every_order}
use Rattle.arithmetic_questions.proofs.QuestionLaws.{handed_on, told, stops, goes_on, all_yes, small_square, shape_alone}
use Rattle.arithmetic_questions.proofs.question.ask_shape.Goals as goal

pub returns-in_err-ask_matrix_order : goal.returns-in_err-ask_matrix_order
returns-in_err-ask_matrix_order g c =
    let a = c.args in
    let order = c.ask_matrix_order in
    rw (handed_on c.from_residual.ensures.1 c.in_err-ask_matrix_order.was, shape_alone anywhere every_order a.rows a.columns (g.T.Real.floats a.a.now) without_exponent +zero a.out a.room)
    (stops _ (told order.result order.ensures) c.in_err-ask_matrix_order.was).asks

pub overflow_mul-rows : goal.overflow_mul-rows
overflow_mul-rows g c =
    let a = c.args in
    let order = c.ask_matrix_order in
    let e = all_yes (told order.result order.ensures) c.in_ok-ask_matrix_order.was in
    omega (arith, small_square a.rows a.columns e.1.0 e.1.1.0)

pub returns : goal.returns
returns g c =
    let a = c.args in
    let order = c.ask_matrix_order in
    let lengths = c.ask_lengths in
    rw (shape_alone anywhere every_order a.rows a.columns (g.T.Real.floats a.a.now) without_exponent +zero a.out a.room, g.met.T.Real.length_law a.a.now)
    (goes_on (told order.result order.ensures) c.in_ok-ask_matrix_order.was (told lengths.result lengths.ensures)).asks
