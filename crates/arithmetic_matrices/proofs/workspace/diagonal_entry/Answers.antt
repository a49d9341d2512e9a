-- `diagonal_entry` meets its contract. Assumes nothing.
use borrow.Author.Tests.{eq-eqb, ne_eqb}
use Rattle.arithmetic_matrices.specs.Product.{diagonal_entry}
use Rattle.arithmetic_matrices.proofs.workspace.diagonal_entry.Goals as goal

pub returns-then-i-j : goal.returns-then-i-j
unfolding diagonal_entry
returns-then-i-j g c = rw (eq-eqb _ _ c.if-i-j.true)

pub returns-else-i-j : goal.returns-else-i-j
unfolding diagonal_entry
returns-else-i-j g c = rw (ne_eqb _ _ c.if-i-j.false, c.ZERO.ensures) g.met.T.Real.zero_law
