-- `names_row` meets its contract. Assumes nothing.
use borrow.Author.Tests.{lt-leb, le-leb}
use Rattle.lu.proofs.question.names_row.Goals as goal

pub returns-then-p-k : goal.returns-then-p-k
returns-then-p-k c = rw (lt-leb _ _ c.if-p-k.true)

pub returns : goal.returns
returns c = rw (le-leb _ _ c.if-p-k.false)
