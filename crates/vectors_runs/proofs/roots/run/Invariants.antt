-- `run` ends: each number that is read leaves less of the text. Assumes nothing.
use Rattle.std.proofs.Common.{length}
use Rattle.vectors_runs.proofs.roots.run.Given as goal

abbrev pub decreases-loop-reader : goal.decreases-loop-reader
decreases-loop-reader g l = length l.reader.rest.now
