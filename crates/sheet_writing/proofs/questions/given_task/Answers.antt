-- `given_task` meets its contract. Assumes nothing.
use Rattle.std.proofs.Common.{rules}
use Rattle.sheet_writing.specs.Written.{given_task}
use Rattle.sheet_writing.proofs.questions.given_task.Goals as goal

pub returns-in_err-code : goal.returns-in_err-code
unfolding given_task
returns-in_err-code c = search rules

pub returns : goal.returns
unfolding given_task
returns c = search rules
