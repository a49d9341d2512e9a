-- `ask_cond_expm` meets its contract. Assumes nothing.
use mathlib.Core.Path.{◌∙◌}
use Rattle.arithmetic_questions.proofs.QuestionLaws.{own_length}
use Rattle.arithmetic_questions.proofs.question.ask_cond_expm.Goals as goal

pub returns : goal.returns
returns g c = let a = c.args in rw (← g.met.T.Real.length_law a.a.now) at c.ask_matrix.ensures ∙ own_length a.rows a.columns (g.T.Real.floats a.a.now) a.room
