-- `order` meets its contract. Assumes nothing.
use Rattle.std.proofs.Common.{rules}
use Rattle.sheet_encoding.specs.Parse.{order}
use Rattle.sheet_encoding.proofs.parse.order.Goals as goal

pub returns-in_err-n-clause-value : goal.returns-in_err-n-clause-value
unfolding order
returns-in_err-n-clause-value c = search rules

pub returns-clause-value : goal.returns-clause-value
unfolding order
returns-clause-value c = search rules
