-- `ask_frechet_expm` meets its contract. Assumes nothing.
use mathlib.Core.Path.{sym, ◌∙◌}
use mathlib.Core.List.{[], ◌∷◌}
use Rattle.arithmetic_questions.specs.Questions.{Call, binary, of_frechet_expm, without_exponent, anywhere, every_order}
use Rattle.arithmetic_questions.proofs.QuestionLaws.{handed_on, told, single, stops, goes_on, all_yes, beside_shape, directed_shape, shape_no, shape_passed, numbers_directed}
use Rattle.arithmetic_questions.proofs.question.ask_frechet_expm.Goals as goal

pub returns-in_err-ask_direction_shape : goal.returns-in_err-ask_direction_shape
returns-in_err-ask_direction_shape g c =
    let a = c.args in
    let shape = c.ask_direction_shape in
    rw (handed_on c.from_residual.ensures.1 c.in_err-ask_direction_shape.was)
    (shape_no of_frechet_expm (binary a.rows a.columns (g.T.Real.floats a.a.now) a.height a.width (g.T.Real.floats a.e.now) (a.first ∷ a.second ∷ []) a.room) shape.result shape.ensures
    c.in_err-ask_direction_shape.was)

pub ask_entries-requires : goal.ask_entries-requires
ask_entries-requires g c =
    let a = c.args in
    let shape = c.ask_direction_shape in
    sym (g.met.T.Real.length_law a.a.now) ∙ (beside_shape without_exponent anywhere every_order (binary a.rows a.columns (g.T.Real.floats a.a.now) a.height a.width (g.T.Real.floats a.e.now) (a.first ∷ a.second ∷ []) a.room)
    (all_yes (told shape.result shape.ensures) c.in_ok-ask_direction_shape.was)).lies

pub ask_direction-requires : goal.ask_direction-requires
ask_direction-requires g c =
    let a = c.args in
    let shape = c.ask_direction_shape in
    sym (g.met.T.Real.length_law a.e.now) ∙ (directed_shape without_exponent anywhere every_order (binary a.rows a.columns (g.T.Real.floats a.a.now) a.height a.width (g.T.Real.floats a.e.now) (a.first ∷ a.second ∷ []) a.room)
    (all_yes (told shape.result shape.ensures) c.in_ok-ask_direction_shape.was)).lies

pub returns-in_err-ask_entries : goal.returns-in_err-ask_entries
returns-in_err-ask_entries g c =
    let a = c.args in
    let shape = c.ask_direction_shape in
    let entries = c.ask_entries in
    let call : Call = binary a.rows a.columns (g.T.Real.floats a.a.now) a.height a.width (g.T.Real.floats a.e.now) (a.first ∷ a.second ∷ []) a.room in
    rw (handed_on c.from_residual-in_err-ask_entries.ensures.1 c.in_err-ask_entries.was)
    (shape_passed of_frechet_expm call shape.result shape.ensures c.in_ok-ask_direction_shape.was entries.result
    ((stops _ (single entries.result entries.ensures) c.in_err-ask_entries.was).asks ∙ sym (numbers_directed call)))

pub returns : goal.returns
returns g c =
    let a = c.args in
    let shape = c.ask_direction_shape in
    let entries = c.ask_entries in
    let direction = c.ask_direction in
    let call : Call = binary a.rows a.columns (g.T.Real.floats a.a.now) a.height a.width (g.T.Real.floats a.e.now) (a.first ∷ a.second ∷ []) a.room in
    shape_passed of_frechet_expm call shape.result shape.ensures c.in_ok-ask_direction_shape.was direction.result
    ((goes_on (single entries.result entries.ensures) c.in_ok-ask_entries.was (single direction.result direction.ensures)).asks ∙ sym (numbers_directed call))
