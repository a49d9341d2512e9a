-- `back_column` meets its contract. The invariant: the last k columns of the factors are done. Assumes nothing.
use Prim.Native.Nat.{◌*◌}
use mathlib.Core.Path.{◌≡◌}
use lib.ListN.{length}
use Rattle.arithmetic_matrices.specs.Matrix.{part, put}
use Rattle.lu_factoring.specs.Solve.{back}
use Rattle.lu_systems.proofs.rows.back_column.Given as goal

abbrev pub invariant-loop-k : goal.invariant-loop-k
invariant-loop-k g l = (length l.w ≡ length l.initial.w) × (g.T.Real.floats l.w ≡ put (g.T.Real.floats l.initial.w) l.x (back g.T.Real.format l.n (part (g.T.Real.floats l.initial.w) l.f (l.n * l.n)) (part (g.T.Real.floats l.initial.w) l.x l.n) l.k))
