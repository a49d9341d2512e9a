-- `byte_in` meets its contract. Assumes nothing.
use Rattle.std.proofs.Common.{rules}
use Rattle.sheet_encoding.specs.Parse.{byte_in}
use Rattle.sheet_encoding.proofs.parse.byte_in.Goals as goal

pub returns-then-s-p-clause-value : goal.returns-then-s-p-clause-value
unfolding byte_in
returns-then-s-p-clause-value c = search rules

pub returns-clause-value : goal.returns-clause-value
unfolding byte_in
returns-clause-value c = search rules
