-- `kron_into` meets its contract. Assumes nothing.
use mathlib.Core.Path.{ap₂, ◌∙◌}
use lib.Ieee.{mul}
use Rattle.functions_kronecker.specs.Kernels.{kron_entry}
use Rattle.functions_kronecker.proofs.KroneckerLaws.{kron_blocks}
use Rattle.functions_kronecker.proofs.kron_into.Goals as goal

pub returns : goal.returns
unfolding kron_entry
returns g c =
    let a = c.args in
    let F = g.T.Real.format in
    let x = g.T.Real.floats a.a.now in
    let y = g.T.Real.floats a.b.now in
    c.blocks_into.ensures (kron_entry F a.n x a.q y) (λ i k hi hk j l s d v r hj hl es ed ev h. h ∙ ap₂ (mul F) es ev) ∙ kron_blocks F a.m a.n x a.p a.q y
