-- `list` meets its contract. The invariant: there are as many members as were read, and what is left is an end of what was left at the start. Assumes nothing.
use Rattle.std.proofs.Common.{◌≡◌, vec_len}
use Rattle.vectors_recorded.specs.Remaining.{IsEndOf}
use Rattle.vectors_recorded.proofs.reader.list.Given as goal

abbrev pub invariant-loop : goal.invariant-loop
invariant-loop g l = (vec_len l.members ≡ l.counter) × (IsEndOf l.initial.reader.rest.now l.reader.rest.now)
