-- `lengths` meets its contract. Assumes nothing.
use Rattle.std.proofs.Common.{rules}
use Rattle.sheet_writing.specs.Written.{lengths}
use Rattle.sheet_writing.proofs.questions.lengths.Goals as goal

pub returns-in_err-exactly : goal.returns-in_err-exactly
unfolding lengths
returns-in_err-exactly c = search rules

pub returns-in_err-exactly-2 : goal.returns-in_err-exactly-2
unfolding lengths
returns-in_err-exactly-2 c = search rules

pub returns-in_err-exactly-3 : goal.returns-in_err-exactly-3
unfolding lengths
returns-in_err-exactly-3 c = search rules

pub returns-in_err-exactly-4 : goal.returns-in_err-exactly-4
unfolding lengths
returns-in_err-exactly-4 c = search rules

pub returns : goal.returns
unfolding lengths
returns c = search rules
