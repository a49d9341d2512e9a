-- `row_dot` meets its contract. The invariant: the sum is that of the first k products, and p is the place of the column's entry k, counted
-- from its first. Assumes nothing.
use Prim.Native.Nat.{◌+◌, ◌*◌}
use mathlib.Core.Path.{◌≡◌}
use Rattle.arithmetic_matrices.specs.Matrix.{item}
use Rattle.arithmetic_matrices.specs.Product.{dot}
use Rattle.arithmetic_matrices.proofs.product.row_dot.Given as goal

abbrev pub invariant-loop-k : goal.invariant-loop-k
invariant-loop-k g l = (l.p ≡ l.k * l.n) × (g.T.Real.float l.sum ≡ dot g.T.Real.format l.k (λ i. item (g.T.Real.floats l.a) (l.x + i)) (λ i. item (g.T.Real.floats l.b) (l.y + (i * l.n + l.j))))
