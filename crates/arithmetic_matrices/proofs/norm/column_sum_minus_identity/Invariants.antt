-- `column_sum_minus_identity` meets its contract, by the loop of a sum. Assumes nothing.
use Prim.Native.Nat.{◌+◌, ◌*◌}
use Rattle.arithmetic_floats.specs.Float.{magnitude}
use Rattle.arithmetic_matrices.specs.Matrix.{item}
use Rattle.arithmetic_matrices.specs.Product.{minus_identity_entry}
use Rattle.arithmetic_matrices.proofs.SeenSums.{PartialSum}
use Rattle.arithmetic_matrices.proofs.norm.column_sum_minus_identity.Given as goal

abbrev pub invariant-loop-i : goal.invariant-loop-i
invariant-loop-i g l = PartialSum g.T.Real.format l.n (λ k. magnitude (minus_identity_entry g.T.Real.format k l.j (item (g.T.Real.floats l.w) (l.x + (k * l.n + l.j))))) (g.T.Real.float l.sum) l.i
