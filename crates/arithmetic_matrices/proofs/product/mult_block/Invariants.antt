-- `mult_block` meets its contract, by a walk down the columns and their sums. Assumes nothing.
use Prim.Native.Nat.{◌+◌, ◌*◌}
use mathlib.Core.Path.{◌≡◌}
use Rattle.arithmetic_matrices.specs.Matrix.{tab}
use Rattle.arithmetic_matrices.specs.Kernels.{row_dot}
use Rattle.arithmetic_matrices.proofs.LoopLaws.{Stored}
use Rattle.arithmetic_matrices.proofs.ProductLaws.{col_dot}
use Rattle.arithmetic_matrices.proofs.product.mult_block.Given as goal

abbrev pub invariant-loop-k : goal.invariant-loop-k
invariant-loop-k g l = (l.p ≡ l.k * l.n) × (g.T.Real.floats l.sums ≡ tab g.row.C (λ t. col_dot g.T.Real.format l.k l.n (g.T.Real.floats l.fn.w) l.x l.b (l.j + t)))

abbrev pub invariant-loop-t : goal.invariant-loop-t
invariant-loop-t g l = Stored 0 g.row.C (λ t. col_dot g.T.Real.format (l.k + 1) l.n (g.T.Real.floats l.fn.w) l.x l.b (l.j + t)) (g.T.Real.floats l.initial.sums) (g.T.Real.floats l.sums) l.t

abbrev pub invariant-loop-t-2 : goal.invariant-loop-t-2
invariant-loop-t-2 g l = Stored (l.y + l.j) g.row.C (λ t. row_dot g.T.Real.format l.n (g.T.Real.floats l.fn.w) l.x (g.T.Real.floats l.fn.w) l.b (l.j + t)) (g.T.Real.floats l.fn.w) (g.T.Real.floats l.w) l.t
