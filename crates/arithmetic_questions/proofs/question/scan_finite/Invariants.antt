-- `scan_finite` meets its contract, by the loops over the rows and columns (`FiniteBefore`). Assumes nothing.
use Prim.Native.Nat.{◌<◌}
use Rattle.arithmetic_questions.proofs.QuestionLaws.{FiniteBefore}
use Rattle.arithmetic_questions.proofs.question.scan_finite.Given as goal

abbrev pub invariant-loop-j : goal.invariant-loop-j
invariant-loop-j g l = (l.i < l.rows) × FiniteBefore (g.T.Real.floats l.a) l.rows l.columns l.i l.j

abbrev pub invariant-loop-i : goal.invariant-loop-i
invariant-loop-i g l = FiniteBefore (g.T.Real.floats l.a) l.rows l.columns l.i 0
