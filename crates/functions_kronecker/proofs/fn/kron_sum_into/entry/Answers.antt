-- The entries of a Kronecker sum meet their contract. Assumes nothing.
use mathlib.Core.Path.{ap, ap₂, ◌∙◌}
use lib.Ieee.{add, mul}
use Rattle.arithmetic_matrices.specs.Product.{diagonal_entry}
use Rattle.functions_kronecker.proofs.fn.kron_sum_into.entry.Goals as goal

pub returns : goal.returns
returns g c =
    let laws = g.met.T.Real in
    let a = c.args in
    let F = g.T.Real.format in
    let identity = c.diagonal_entry.ensures ∙ ap (λ v. diagonal_entry v a.k a.l) (ap g.T.Real.float c.ONE.ensures ∙ laws.one_law) in
    laws.add_law _ _ _ c.add.ensures
    ∙ ap₂ (add F) (laws.mul_law _ _ _ c.mul.ensures ∙ ap (mul F (g.T.Real.float a.s)) identity) (laws.mul_law _ _ _ c.mul-2.ensures)
