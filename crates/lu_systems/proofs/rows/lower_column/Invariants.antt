-- `lower_column` meets its contract. The invariant: the rows from lo up to i are done. Assumes nothing.
use Prim.Native.Nat.{◌*◌, ◌≤◌}
use mathlib.Core.Path.{◌≡◌}
use lib.ListN.{length}
use Rattle.arithmetic_matrices.specs.Matrix.{part, put}
use Rattle.arithmetic_matrices.specs.Kernels.{patch}
use Rattle.lu_factoring.specs.Kernels.{lowered}
use Rattle.lu_systems.proofs.rows.lower_column.Given as goal

abbrev pub invariant-loop-i : goal.invariant-loop-i
invariant-loop-i g l = (l.lo ≤ l.i) × (l.i ≤ l.hi) × (length l.w ≡ length l.initial.w) × (g.T.Real.floats l.w ≡ put (g.T.Real.floats l.initial.w) l.x (patch l.lo l.i (lowered g.T.Real.format l.n (part (g.T.Real.floats l.initial.w) l.f (l.n * l.n)) l.k (part (g.T.Real.floats l.initial.w) l.x l.n)) (part (g.T.Real.floats l.initial.w) l.x l.n)))
