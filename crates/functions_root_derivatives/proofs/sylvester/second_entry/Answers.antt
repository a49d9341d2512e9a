-- `second_entry` meets its contract: an entry of the transpose is that of S with row and column exchanged. Assumes nothing.
use mathlib.Core.Path.{sym, ◌∙◌}
use Rattle.arithmetic_matrices.specs.Matrix.{at}
use Rattle.arithmetic_matrices.specs.Product.{transpose_m}
use Rattle.arithmetic_matrices.proofs.MatrixLaws.{at-grid}
use Rattle.functions_root_derivatives.proofs.sylvester.second_entry.Goals as goal

pub returns-then-transposed : goal.returns-then-transposed
unfolding transpose_m
returns-then-transposed g c =
    let a = c.args in
    rw c.if-transposed.true (c.entry.ensures ∙ sym (at-grid a.n a.n (λ i j. at a.n (g.T.Real.floats a.s.now) j i) a.p a.q c.requires.0 c.requires.1))

pub returns-else-transposed : goal.returns-else-transposed
returns-else-transposed g c = rw c.if-transposed.false c.entry-else-transposed.ensures
