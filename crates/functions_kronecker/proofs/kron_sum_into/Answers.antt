-- `kron_sum_into` meets its contract. Assumes nothing.
use mathlib.Core.Path.{ap₂, ◌∙◌}
use lib.Ieee.{Float, add, mul}
use Rattle.arithmetic_floats.specs.Float.{one}
use Rattle.arithmetic_matrices.specs.Product.{diagonal_entry}
use Rattle.functions_kronecker.specs.Kernels.{kron_sum_entry}
use Rattle.functions_kronecker.proofs.KroneckerLaws.{sum_blocks}
use Rattle.functions_kronecker.proofs.kron_sum_into.Goals as goal

pub returns : goal.returns
unfolding kron_sum_entry
returns g c =
    let a = c.args in
    let F = g.T.Real.format in
    let x = g.T.Real.floats a.a.now in
    let y = g.T.Real.floats a.b.now in
    c.blocks_into.ensures (kron_sum_entry F a.m x a.p y)
    (λ i k hi hk j l s d v r hj hl es ed ev h. h ∙ ap₂ (λ (t u : Float). add F (mul F t (diagonal_entry one k l)) u) es (ap₂ (mul F) ed ev))
    ∙ sum_blocks F a.m x a.p y
