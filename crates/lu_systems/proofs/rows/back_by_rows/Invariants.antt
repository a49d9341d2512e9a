-- `back_by_rows` meets its contract. The invariant: the last k rows are final, and nothing else is changed. Assumes nothing.
use Prim.Native.Nat.{◌-◌, ◌*◌}
use mathlib.Core.Path.{◌≡◌}
use lib.ListN.{length}
use Rattle.arithmetic_matrices.specs.Matrix.{part, put}
use Rattle.lu_factoring.specs.Kernels.{each_column}
use Rattle.lu_systems.proofs.ByRows.{back_from}
use Rattle.lu_systems.proofs.rows.back_by_rows.Given as goal

abbrev pub invariant-loop-k : goal.invariant-loop-k
invariant-loop-k g l =
    let w = g.T.Real.floats l.initial.w in
    (length l.w ≡ length l.initial.w) × (g.T.Real.floats l.w ≡ put w l.x (each_column l.n l.m (back_from g.T.Real.format l.n (part w l.f (l.n * l.n)) (l.n - l.k)) (part w l.x (l.n * l.m))))
