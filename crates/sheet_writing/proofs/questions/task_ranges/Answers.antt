-- `task_ranges` meets its contract. Assumes nothing.
use Rattle.std.proofs.Common.{rules}
use Rattle.sheet_writing.specs.Written.{task_ranges}
use Rattle.sheet_writing.proofs.questions.task_ranges.Goals as goal

pub returns-in_err-t : goal.returns-in_err-t
unfolding task_ranges
returns-in_err-t c = search rules

pub returns : goal.returns
unfolding task_ranges
returns c = search rules
