-- `forward_by_rows` meets its contract. The invariant: the first i rows are final, and nothing else is changed. Assumes nothing.
use Prim.Native.Nat.{◌*◌}
use mathlib.Core.Path.{◌≡◌}
use lib.ListN.{length}
use Rattle.arithmetic_matrices.specs.Matrix.{part, put}
use Rattle.lu_factoring.specs.Kernels.{each_column}
use Rattle.lu_systems.proofs.ByRows.{forward_to}
use Rattle.lu_systems.proofs.rows.forward_by_rows.Given as goal

abbrev pub invariant-loop-i : goal.invariant-loop-i
invariant-loop-i g l =
    let w = g.T.Real.floats l.initial.w in
    (length l.w ≡ length l.initial.w) × (g.T.Real.floats l.w ≡ put w l.x (each_column l.n l.m (forward_to g.T.Real.format l.n (part w l.f (l.n * l.n)) l.i) (part w l.x (l.n * l.m))))
