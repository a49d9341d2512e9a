-- `ranges` meets its contract. Assumes nothing.
use Rattle.std.proofs.Common.{rules}
use Rattle.sheet_writing.specs.Written.{ranges}
use Rattle.sheet_writing.proofs.questions.ranges.Goals as goal

pub returns-in_err-n : goal.returns-in_err-n
unfolding ranges
returns-in_err-n c = search rules

pub returns-in_err-d : goal.returns-in_err-d
unfolding ranges
returns-in_err-d c = search rules

pub returns-in_err-e : goal.returns-in_err-e
unfolding ranges
returns-in_err-e c = search rules

pub returns : goal.returns
unfolding ranges
returns c = search rules
