-- `norm_1_minus_identity` meets its contract, by the loop of the largest column sum. Assumes nothing.
use Prim.Native.Nat.{◌+◌, ◌*◌}
use Rattle.arithmetic_matrices.specs.Matrix.{item}
use Rattle.arithmetic_matrices.specs.Product.{minus_identity_entry}
use Rattle.arithmetic_matrices.specs.Norm.{sum_of_magnitudes}
use Rattle.arithmetic_matrices.proofs.SeenSums.{Largest}
use Rattle.arithmetic_matrices.proofs.norm.norm_1_minus_identity.Given as goal

abbrev pub invariant-loop-j : goal.invariant-loop-j
invariant-loop-j g l = Largest l.n (λ k. sum_of_magnitudes g.T.Real.format l.n (λ i. minus_identity_entry g.T.Real.format i k (item (g.T.Real.floats l.w) (l.x + (i * l.n + k))))) (g.T.Real.float l.max) l.j
