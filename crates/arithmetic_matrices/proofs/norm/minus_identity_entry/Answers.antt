-- `minus_identity_entry` meets its contract. Assumes nothing.
use mathlib.Core.Path.{◌∙◌, ap}
use borrow.Author.Tests.{eq-eqb, ne_eqb}
use lib.Ieee.{sub}
use Rattle.arithmetic_matrices.specs.Product.{minus_identity_entry}
use Rattle.arithmetic_matrices.proofs.norm.minus_identity_entry.Goals as goal

pub returns-then-i-j : goal.returns-then-i-j
unfolding minus_identity_entry
returns-then-i-j g c =
    let laws = g.met.T.Real in
    rw (eq-eqb _ _ c.if-i-j.true) (laws.sub_law _ _ _ c.sub.ensures ∙ ap (sub g.T.Real.format (g.T.Real.float c.args.v)) (ap g.T.Real.float c.ONE.ensures ∙ laws.one_law))

pub returns-else-i-j : goal.returns-else-i-j
unfolding minus_identity_entry
returns-else-i-j g c = rw (ne_eqb _ _ c.if-i-j.false)
