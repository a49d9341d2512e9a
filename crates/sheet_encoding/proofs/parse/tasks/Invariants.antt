-- `tasks` meets its contract. Assumes nothing.
use Prim.Native.Nat.{◌+◌, ◌-◌, ◌*◌}
use mathlib.Core.Path.{◌≡◌}
use Rattle.sheet_encoding.specs.Parse.{tasks}
use Rattle.sheet_encoding.proofs.parse.tasks.Given as goal

abbrev pub invariant-loop-k : goal.invariant-loop-k
invariant-loop-k l = tasks l.s (l.q + 2 * l.k) l.d l.e (l.count - l.k) ≡ tasks l.s l.q l.d l.e l.count
