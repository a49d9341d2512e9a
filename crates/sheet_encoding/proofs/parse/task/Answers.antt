-- `task` meets its contract. Assumes nothing.
use Rattle.std.proofs.Common.{rules}
use Rattle.sheet_encoding.specs.Parse.{task}
use Rattle.sheet_encoding.proofs.parse.task.Goals as goal

pub returns-in_err-code : goal.returns-in_err-code
unfolding task
returns-in_err-code c = search rules

pub returns : goal.returns
unfolding task
returns c = search rules
