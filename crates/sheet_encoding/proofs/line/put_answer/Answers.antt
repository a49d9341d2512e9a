-- `put_answer` meets its contract. Assumes nothing.
use native.Mathlib.Omega.{arith}
use mathlib.Core.Path.{ap, ◌∙◌}
use mathlib.Core.List.{[], ◌∷◌, ◌++◌}
use lib.Ieee.{binary64}
use Rattle.arithmetic_questions.specs.Answers.{reported}
use Rattle.sheet_encoding.proofs.LineLaws.{answer_done, refused_line_lem}
use Rattle.sheet_encoding.proofs.line.put_answer.Goals as goal

pub returns-in-Ok : goal.returns-in-Ok
returns-in-Ok c =
    let a = c.args in
    let line = c.put_done.ensures in
    rw (← answer_done binary64 a.task _ a.outcome (a.first.now ++ a.second.now ++ (a.smallest ∷ [])) c.in-Ok.is) line

pub returns-in-Err : goal.returns-in-Err
returns-in-Err c =
    let a = c.args in
    let line = c.put_refused.ensures in
    record { wrote = rw (← refused_line_lem binary64 a.task _ _ _ (reported a.outcome) (a.first.now ++ a.second.now ++ (a.smallest ∷ [])) (ap reported c.in-Err.is ∙ c.from.ensures)) line.wrote; short = omega (arith, line.upper_bound) }
