-- `section` meets its contract. Assumes nothing.
use Rattle.std.proofs.Common.{rules}
use Rattle.sheet_encoding.specs.Parse.{section}
use Rattle.sheet_encoding.proofs.parse.section.Goals as goal

pub returns-in_err-v-clause-value : goal.returns-in_err-v-clause-value
unfolding section
returns-in_err-v-clause-value c = search rules

pub returns-clause-value : goal.returns-clause-value
unfolding section
returns-clause-value c = search rules
