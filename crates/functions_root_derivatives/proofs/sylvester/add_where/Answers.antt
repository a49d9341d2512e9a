-- `add_where` meets its contract. Assumes nothing.
use borrow.Author.Tests.{eq-eqb, ne_eqb}
use Rattle.functions_root_derivatives.proofs.sylvester.add_where.Goals as goal

pub returns-then-i-j : goal.returns-then-i-j
returns-then-i-j g c = rw (eq-eqb c.args.i c.args.j c.if-i-j.true) (g.met.T.Real.add_law _ _ _ c.add.ensures)

pub returns-else-i-j : goal.returns-else-i-j
returns-else-i-j g c = rw (ne_eqb c.args.i c.args.j c.if-i-j.false)
