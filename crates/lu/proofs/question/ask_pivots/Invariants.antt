-- `ask_pivots` meets its contract. The loop's invariant: the question is that of the pivots from k on. Assumes nothing.
use Prim.Native.Nat.{◌≤◌}
use mathlib.Core.Path.{◌≡◌}
use lib.ListN.{length, drop}
use Rattle.arithmetic_questions.specs.Questions.{pivots_from}
use Rattle.lu.proofs.question.ask_pivots.Given as goal

abbrev pub invariant-loop-k : goal.invariant-loop-k
invariant-loop-k l = (l.k ≤ length l.pivots) × (pivots_from l.n 0 l.pivots ≡ pivots_from l.n l.k (drop l.k l.pivots))
