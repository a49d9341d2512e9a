-- `sums_of_squares` meets its contract, by the loop of two sums. Assumes nothing.
use Prim.Native.Nat.{◌+◌}
use lib.Ieee.{mul}
use Rattle.arithmetic_matrices.specs.Matrix.{item}
use Rattle.arithmetic_matrices.proofs.SeenSums.{PartialSum}
use Rattle.arithmetic_matrices.proofs.norm.sums_of_squares.Given as goal

abbrev pub invariant-loop-i : goal.invariant-loop-i
invariant-loop-i g l =
    PartialSum g.T.Real.format l.k (λ q. mul g.T.Real.format (item (g.T.Real.floats l.w) (l.x + q)) (item (g.T.Real.floats l.w) (l.x + q))) (g.T.Real.float l.first) l.i
    × PartialSum g.T.Real.format l.k (λ q. mul g.T.Real.format (item (g.T.Real.floats l.w) (l.y + q)) (item (g.T.Real.floats l.w) (l.y + q))) (g.T.Real.float l.second) l.i
