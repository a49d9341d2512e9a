-- `run_lines` meets its contract: each line leaves a shorter end of the text. Assumes nothing.
use Rattle.std.proofs.Common.{length}
use Rattle.vectors_recorded.specs.Remaining.{IsEndOf}
use Rattle.vectors_recorded.proofs.run.run_lines.Given as goal

abbrev pub invariant-loop-line : goal.invariant-loop-line
invariant-loop-line g l = IsEndOf l.initial.progress.rest.now l.progress.rest.now

abbrev pub decreases-loop-line : goal.decreases-loop-line
decreases-loop-line g l = length l.progress.rest.now
