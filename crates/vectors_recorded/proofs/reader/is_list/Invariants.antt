-- `is_list` meets its contract. The invariant: what is left is an end of what was left at the start. Assumes nothing.
use Rattle.vectors_recorded.specs.Remaining.{IsEndOf}
use Rattle.vectors_recorded.proofs.reader.is_list.Given as goal

abbrev pub invariant-loop-item : goal.invariant-loop-item
invariant-loop-item g l = IsEndOf l.initial.reader.rest.now l.reader.rest.now
