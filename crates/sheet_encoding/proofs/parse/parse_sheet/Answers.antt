-- `parse_sheet` meets its contract. Assumes nothing.
use Rattle.std.proofs.Common.{rules}
use Rattle.sheet_encoding.specs.Parse.{parse_end, parse_each, parse_tasks, parse_exponents, parse_directions, parse_sheet}
use Rattle.sheet_encoding.proofs.parse.parse_sheet.Goals as goal

pub returns-in_err-n : goal.returns-in_err-n
unfolding parse_sheet
returns-in_err-n c = search rules

pub returns-in_err-d : goal.returns-in_err-d
unfolding parse_sheet parse_directions
returns-in_err-d c = search rules

pub returns-in_err-e : goal.returns-in_err-e
unfolding parse_sheet parse_directions parse_exponents
returns-in_err-e c = search rules

pub returns-in_err-t : goal.returns-in_err-t
unfolding parse_sheet parse_directions parse_exponents parse_tasks
returns-in_err-t c = search rules

pub returns-in_err-tasks : goal.returns-in_err-tasks
unfolding parse_sheet parse_directions parse_exponents parse_tasks parse_each
returns-in_err-tasks c = search rules

pub returns-then-end-s : goal.returns-then-end-s
unfolding parse_sheet parse_directions parse_exponents parse_tasks parse_each parse_end
returns-then-end-s c = search rules

pub returns : goal.returns
unfolding parse_sheet parse_directions parse_exponents parse_tasks parse_each parse_end
returns c = search rules
