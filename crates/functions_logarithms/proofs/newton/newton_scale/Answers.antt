-- `newton_scale` meets its contract. Assumes nothing.
use mathlib.Core.Path.{sym, ap, ◌∙◌}
use mathlib.Core.Bool.{true, false}
use lib.Ieee.{lt, div}
use Rattle.arithmetic_floats.specs.Root.{sqrt_of}
use Rattle.functions_logarithms.proofs.NewtonLaws.{scale_is}
use Rattle.functions_logarithms.proofs.newton.newton_scale.Goals as goal

pub returns-then-lt : goal.returns-then-lt
returns-then-lt g c =
    let laws = g.met.T.Real in
    let f = g.T.Real.format in
    let a = c.args in
    let epsilon = ap g.T.Real.float c.EPSILON.ensures ∙ laws.epsilon_law in
    let root = c.sqrt-root.ensures.value ∙ ap (sqrt_of f) (laws.div_law _ _ _ c.div.ensures ∙ (λ i. div f (c.trace.ensures i) (c.of_small.ensures i))) in
    let above = ap (λ e. lt e (g.T.Real.float c.sqrt-root.result)) (sym epsilon) ∙ sym (laws.less_law _ _) ∙ sym c.lt.ensures ∙ c.if-lt.true in
    scale_is f a.n (g.T.Real.floats a.w.now) (g.T.Real.float c.sqrt-root.result) root true above

pub returns-else-lt : goal.returns-else-lt
returns-else-lt g c =
    let laws = g.met.T.Real in
    let f = g.T.Real.format in
    let a = c.args in
    let epsilon = ap g.T.Real.float c.EPSILON.ensures ∙ laws.epsilon_law in
    let root = c.sqrt-root.ensures.value ∙ ap (sqrt_of f) (laws.div_law _ _ _ c.div.ensures ∙ (λ i. div f (c.trace.ensures i) (c.of_small.ensures i))) in
    let above = ap (λ e. lt e (g.T.Real.float c.sqrt-root.result)) (sym epsilon) ∙ sym (laws.less_law _ _) ∙ sym c.lt.ensures ∙ c.if-lt.false in
    ap g.T.Real.float c.ONE.ensures ∙ laws.one_law ∙ scale_is f a.n (g.T.Real.floats a.w.now) (g.T.Real.float c.sqrt-root.result) root false above
