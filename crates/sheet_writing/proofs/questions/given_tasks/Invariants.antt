-- `given_tasks` meets its contract. Assumes nothing.
use Prim.Native.Nat.{◌-◌, ◌*◌}
use mathlib.Core.Path.{◌≡◌}
use Rattle.sheet_writing.specs.Written.{given_tasks}
use Rattle.sheet_writing.proofs.questions.given_tasks.Given as goal

abbrev pub invariant-loop-k : goal.invariant-loop-k
invariant-loop-k l = given_tasks l.task l.q l.d l.e (2 * l.k) (l.count - l.k) ≡ given_tasks l.task l.q l.d l.e 0 l.count
