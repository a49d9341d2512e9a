-- `norm_1` meets its contract, by the loop of the largest column sum, two columns a turn. Assumes nothing.
use Prim.Native.Nat.{◌+◌, ◌*◌}
use Rattle.arithmetic_matrices.specs.Matrix.{item}
use Rattle.arithmetic_matrices.specs.Norm.{sum_of_magnitudes}
use Rattle.arithmetic_matrices.proofs.SeenSums.{Largest}
use Rattle.arithmetic_matrices.proofs.norm.norm_1.Given as goal

abbrev pub invariant-loop-k : goal.invariant-loop-k
invariant-loop-k g l = Largest l.n (λ j. sum_of_magnitudes g.T.Real.format l.n (λ i. item (g.T.Real.floats l.w) (l.x + (i * l.n + j)))) (g.T.Real.float l.max) (2 * l.k)
