-- `permute_rows` meets its contract. The invariant: the first k swaps are done in each column. Assumes nothing.
use Prim.Native.Nat.{◌*◌}
use mathlib.Core.Path.{◌≡◌}
use lib.ListN.{length}
use Rattle.arithmetic_matrices.specs.Matrix.{part, put}
use Rattle.lu_factoring.specs.Solve.{permuted}
use Rattle.lu_factoring.specs.Kernels.{each_column}
use Rattle.lu_systems.proofs.rows.permute_rows.Given as goal

abbrev pub invariant-loop-k : goal.invariant-loop-k
invariant-loop-k g l = (length l.w ≡ length l.initial.w) × (g.T.Real.floats l.w ≡ put (g.T.Real.floats l.initial.w) l.x (each_column l.n l.m (λ v. permuted l.n l.pivots v l.k) (part (g.T.Real.floats l.initial.w) l.x (l.n * l.m))))
