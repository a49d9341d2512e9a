-- `sign` meets its contract: one constant for each way through the test. Assumes nothing.
use Prim.Native.Nat.{◌%◌}
use lib.Ieee.{neg}
use mathlib.Core.Path.{◌∙◌, ap}
use borrow.Author.Tests.{ne_eqb}
use Rattle.lu_substitution.proofs.substitution.sign.Goals as goal

pub returns-else-c-eq0 : goal.returns-else-c-eq0
unfolding neg
returns-else-c-eq0 g c =
    let laws = g.met.T.Real in
    rw (ne_eqb (c.args.c % 2) 0 c.if-c-eq0.false) (laws.neg_law _ _ c.neg.ensures ∙ ap neg (ap g.T.Real.float c.ONE-else-c-eq0.ensures ∙ laws.one_law))
