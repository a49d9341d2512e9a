-- `root_verdict` meets its contract. Assumes nothing.
use mathlib.Core.Path.{sym, ap, ◌∙◌}
use lib.Ieee.{lt, mul}
use Rattle.arithmetic_floats.specs.Root.{hundred_steps}
use Rattle.functions_definitions.specs.Roots.{root_tolerance}
use Rattle.functions_roots.specs.Kernels.{tested}
use Rattle.functions_roots.proofs.pass.root_verdict.Goals as goal

pub returns-then-has_large_root : goal.returns-then-has_large_root
unfolding root_tolerance hundred_steps
returns-then-has_large_root g c = sym (ap tested (c.has_large_root.ensures c.if-has_large_root.true))

pub returns-then-lt : goal.returns-then-lt
unfolding root_tolerance
returns-then-lt g c =
    let laws = g.met.T.Real in
    let high = laws.mul_law _ _ _ c.mul.ensures ∙ (λ i. mul g.T.Real.format ((ap g.T.Real.float c.EPSILON.ensures ∙ laws.epsilon_law) i) (c.of_small.ensures i)) in
    sym (ap tested c.if-lt.true) ∙ ap tested (c.lt.ensures ∙ laws.less_law _ _ ∙ (λ i. lt (c.sqrt.ensures.value i) (high i)))

pub returns-else-lt : goal.returns-else-lt
unfolding root_tolerance
returns-else-lt g c =
    let laws = g.met.T.Real in
    let high = laws.mul_law _ _ _ c.mul.ensures ∙ (λ i. mul g.T.Real.format ((ap g.T.Real.float c.EPSILON.ensures ∙ laws.epsilon_law) i) (c.of_small.ensures i)) in
    sym (ap tested c.if-lt.false) ∙ ap tested (c.lt.ensures ∙ laws.less_law _ _ ∙ (λ i. lt (c.sqrt.ensures.value i) (high i)))
