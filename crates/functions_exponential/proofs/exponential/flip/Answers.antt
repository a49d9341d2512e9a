-- `flip` meets its contract. Assumes nothing.
use Prim.Native.Nat.{◌%◌}
use borrow.Author.Tests.{eq-eqb, ne_eqb}
use Rattle.functions_exponential.proofs.exponential.flip.Goals as goal

pub returns-then-k-eq0 : goal.returns-then-k-eq0
returns-then-k-eq0 g c = rw (eq-eqb (c.args.k % 2) 0 c.if-k-eq0.true)

pub returns-else-k-eq0 : goal.returns-else-k-eq0
returns-else-k-eq0 g c = rw (ne_eqb (c.args.k % 2) 0 c.if-k-eq0.false) (g.met.T.Real.neg_law _ _ c.neg.ensures)
