-- `ask_direction_shape` meets its contract. Assumes nothing.
use native.Mathlib.Omega.{arith}
use Rattle.arithmetic_questions.specs.Questions.{anywhere, every_order}
use Rattle.arithmetic_questions.proofs.QuestionLaws.{handed_on, told, single, stops, goes_on, all_yes, small_square, small_direction, shape_directed}
use Rattle.arithmetic_questions.proofs.question.ask_direction_shape.Goals as goal

pub returns-in_err-ask_direction_order : goal.returns-in_err-ask_direction_order
returns-in_err-ask_direction_order g c =
    let a = c.args in
    let order = c.ask_direction_order in
    rw (handed_on c.from_residual.ensures.1 c.in_err-ask_direction_order.was, shape_directed anywhere every_order a.rows a.columns (g.T.Real.floats a.a.now) a.height a.width (g.T.Real.floats a.e.now) a.first a.second a.room)
    (stops _ (told order.result order.ensures) c.in_err-ask_direction_order.was).asks

pub overflow_mul-rows : goal.overflow_mul-rows
overflow_mul-rows g c =
    let a = c.args in
    let order = c.ask_direction_order in
    let e = all_yes (told order.result order.ensures) c.in_ok-ask_direction_order.was in
    omega (arith, small_square a.rows a.columns e.1.0 e.1.1.1.0)

pub overflow_mul-height : goal.overflow_mul-height
overflow_mul-height g c =
    let a = c.args in
    let order = c.ask_direction_order in
    let e = all_yes (told order.result order.ensures) c.in_ok-ask_direction_order.was in
    omega (arith, (small_direction a.rows a.height a.width e.1.1.0 e.1.1.1.0).2)

pub overflow_mul-rows-2 : goal.overflow_mul-rows-2
overflow_mul-rows-2 g c =
    let a = c.args in
    let order = c.ask_direction_order in
    let e = all_yes (told order.result order.ensures) c.in_ok-ask_direction_order.was in
    omega (arith, small_square a.rows a.columns e.1.0 e.1.1.1.0)

pub returns-in_err-ask_length : goal.returns-in_err-ask_length
returns-in_err-ask_length g c =
    let a = c.args in
    let order = c.ask_direction_order in
    let matrix = c.ask_length in
    rw (
      handed_on c.from_residual-in_err-ask_length.ensures.1 c.in_err-ask_length.was,
      shape_directed anywhere every_order a.rows a.columns (g.T.Real.floats a.a.now) a.height a.width (g.T.Real.floats a.e.now) a.first a.second a.room,
      g.met.T.Real.length_law a.a.now,
    )
    (goes_on (told order.result order.ensures) c.in_ok-ask_direction_order.was
    (stops _ (single matrix.result matrix.ensures) c.in_err-ask_length.was)).asks

pub returns-in_err-ask_length-2 : goal.returns-in_err-ask_length-2
returns-in_err-ask_length-2 g c =
    let a = c.args in
    let order = c.ask_direction_order in
    let matrix = c.ask_length in
    let companion = c.ask_length-2 in
    rw (
      handed_on c.from_residual-in_err-ask_length-2.ensures.1 c.in_err-ask_length-2.was,
      shape_directed anywhere every_order a.rows a.columns (g.T.Real.floats a.a.now) a.height a.width (g.T.Real.floats a.e.now) a.first a.second a.room,
      g.met.T.Real.length_law a.a.now,
      g.met.T.Real.length_law a.e.now,
    )
    (goes_on (told order.result order.ensures) c.in_ok-ask_direction_order.was
    (goes_on (single matrix.result matrix.ensures) c.in_ok-ask_length.was
    (stops _ (single companion.result companion.ensures) c.in_err-ask_length-2.was))).asks

pub returns : goal.returns
returns g c =
    let a = c.args in
    let order = c.ask_direction_order in
    let matrix = c.ask_length in
    let companion = c.ask_length-2 in
    let outputs = c.ask_lengths in
    rw (
      shape_directed anywhere every_order a.rows a.columns (g.T.Real.floats a.a.now) a.height a.width (g.T.Real.floats a.e.now) a.first a.second a.room,
      g.met.T.Real.length_law a.a.now,
      g.met.T.Real.length_law a.e.now,
    )
    (goes_on (told order.result order.ensures) c.in_ok-ask_direction_order.was
    (goes_on (single matrix.result matrix.ensures) c.in_ok-ask_length.was
    (goes_on (single companion.result companion.ensures) c.in_ok-ask_length-2.was
    (told outputs.result outputs.ensures)))).asks
