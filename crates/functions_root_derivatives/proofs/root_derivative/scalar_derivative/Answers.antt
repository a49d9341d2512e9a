-- `scalar_derivative` meets its contract. Assumes nothing.
use mathlib.Core.Path.{sym, ap, ◌∙◌}
use lib.Ieee.{lt, div, mul}
use Rattle.functions_definitions.specs.Derivatives.{scalar_derivative}
use Rattle.functions_root_derivatives.proofs.root_derivative.scalar_derivative.Goals as goal

pub returns-then-lt : goal.returns-then-lt
unfolding scalar_derivative
returns-then-lt g c =
    let laws = g.met.T.Real in
    let f = g.T.Real.format in
    let above = ap (λ z. lt z (g.T.Real.float c.args.r)) (sym (ap g.T.Real.float c.ZERO.ensures ∙ laws.zero_law)) ∙ sym (laws.less_law c.ZERO.result c.args.r) ∙ sym c.lt.ensures ∙ c.if-lt.true in
    rw above (laws.div_law _ _ _ c.div.ensures ∙ ap (div f (g.T.Real.float c.args.e)) (laws.mul_law _ _ _ c.mul.ensures ∙ ap (λ y. mul f y (g.T.Real.float c.args.r)) c.power_of_two.ensures))

pub returns-else-lt : goal.returns-else-lt
unfolding scalar_derivative
returns-else-lt g c =
    let laws = g.met.T.Real in
    let above = ap (λ z. lt z (g.T.Real.float c.args.r)) (sym (ap g.T.Real.float c.ZERO.ensures ∙ laws.zero_law)) ∙ sym (laws.less_law c.ZERO.result c.args.r) ∙ sym c.lt.ensures ∙ c.if-lt.false in
    rw above (ap g.T.Real.float c.ZERO-else-lt.ensures ∙ laws.zero_law)
