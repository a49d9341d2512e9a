-- `ask_matrix` meets its contract. Assumes nothing.
use mathlib.Core.Path.{sym, ◌∙◌}
use mathlib.Core.List.{[], ◌∷◌}
use Rattle.arithmetic_questions.specs.Questions.{Call, unary, of_cond_expm, without_exponent, anywhere, every_order}
use Rattle.arithmetic_questions.proofs.QuestionLaws.{handed_on, told, single, all_yes, alone_shape, shape_no, shape_passed, numbers_alone}
use Rattle.arithmetic_questions.proofs.question.ask_matrix.Goals as goal

pub returns-in_err-ask_shape : goal.returns-in_err-ask_shape
returns-in_err-ask_shape g c =
    let a = c.args in
    let shape = c.ask_shape in
    rw (handed_on c.from_residual.ensures.1 c.in_err-ask_shape.was)
    (shape_no of_cond_expm (unary a.rows a.columns (g.T.Real.floats a.a.now) (a.out ∷ []) a.room) shape.result shape.ensures c.in_err-ask_shape.was)

pub ask_entries-requires : goal.ask_entries-requires
ask_entries-requires g c =
    let a = c.args in
    let shape = c.ask_shape in
    sym (g.met.T.Real.length_law a.a.now) ∙ (alone_shape without_exponent anywhere every_order (unary a.rows a.columns (g.T.Real.floats a.a.now) (a.out ∷ []) a.room) (all_yes (told shape.result shape.ensures) c.in_ok-ask_shape.was)).lies

pub returns : goal.returns
returns g c =
    let a = c.args in
    let shape = c.ask_shape in
    let call : Call = unary a.rows a.columns (g.T.Real.floats a.a.now) (a.out ∷ []) a.room in
    shape_passed of_cond_expm call shape.result shape.ensures c.in_ok-ask_shape.was c.ask_entries.result
    ((single c.ask_entries.result c.ask_entries.ensures).asks ∙ sym (numbers_alone call))
