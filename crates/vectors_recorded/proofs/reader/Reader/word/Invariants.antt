-- `word` meets its contract. The invariant: what is left is an end of what was left at the start. Assumes nothing.
use Rattle.std.proofs.Common.{length}
use Rattle.vectors_recorded.specs.Remaining.{IsEndOf}
use Rattle.vectors_recorded.proofs.reader.Reader.word.Given as goal

abbrev pub invariant-loop-b : goal.invariant-loop-b
invariant-loop-b l = IsEndOf l.initial.self.rest.now l.self.rest.now

abbrev pub decreases-loop-b : goal.decreases-loop-b
decreases-loop-b l = length l.self.rest.now
