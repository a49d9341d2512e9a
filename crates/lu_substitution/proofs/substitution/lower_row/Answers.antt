-- `lower_row` meets its contract: the numbers before column 4 * b, or j, are written, and nothing else is changed. Assumes nothing.
use Prim.Native.Nat.{◌+◌, ◌*◌}
use native.Mathlib.Omega.{arith}
use mathlib.Core.Path.{◌≡◌, refl}
use mathlib.Core.Logic.{inl}
use Rattle.arithmetic_matrices.proofs.PartLaws.{put-none}
use Rattle.lu_systems.specs.Kernels.{row_at}
use Rattle.lu_systems.proofs.ByRows.{lower_after}
use Rattle.lu_substitution.proofs.substitution.lower_row.Goals as goal

pub loop-b-init : goal.loop-b-init
loop-b-init g c = put-none _ _ _

pub loop-b-preserved : goal.loop-b-preserved
loop-b-preserved g c =
    let b = c.loop-b.b in
    let a = c.args in
    let next : 4 * b + 4 ≡ 4 * (b + 1) = omega arith in
    rw (c.lower_block.ensures, c.loop-b.invariant, ← next) (lower_after g.T.Real.format a.k a.m (g.T.Real.floats a.x.now) a.y (4 * b) 4 (omega arith) (row_at (g.T.Real.floats a.f.now) a.q) (row_at (g.T.Real.floats a.f.now) a.q) 0 (λ i d. refl) (inl (omega arith)))

pub loop-j-preserved : goal.loop-j-preserved
loop-j-preserved g c =
    let j = c.loop-j.j in
    let a = c.args in
    rw (c.lower_block-in-loop-j.ensures, c.loop-j.invariant) (lower_after g.T.Real.format a.k a.m (g.T.Real.floats a.x.now) a.y j 1 (omega arith) (row_at (g.T.Real.floats a.f.now) a.q) (row_at (g.T.Real.floats a.f.now) a.q) 0 (λ i d. refl) (inl (omega arith)))
