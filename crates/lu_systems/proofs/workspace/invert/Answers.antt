-- `invert` meets its contract: the identity is stored beside the matrix, which is as it was. Assumes nothing.
use Prim.Native.Nat.{◌*◌}
use mathlib.Core.Path.{◌≡◌, ap, ◌∙◌}
use mathlib.Core.List.{List}
use lib.ListN.{length}
use lib.Ieee.{Float}
use Rattle.arithmetic_matrices.specs.Matrix.{part}
use Rattle.arithmetic_matrices.specs.Product.{identity_m}
use Rattle.arithmetic_matrices.specs.Workspace.{slot}
use Rattle.arithmetic_matrices.proofs.MatrixLaws.{square_le}
use Rattle.arithmetic_matrices.proofs.ProductLaws.{length-identity_m}
use Rattle.arithmetic_matrices.proofs.Slots.{slots_apart, slot_other}
use Rattle.lu_factoring.specs.Lu.{lu_outcome}
use Rattle.lu_factoring.specs.Kernels.{divided}
use Rattle.lu_factoring.specs.Pivots.{smallest_pivot}
use native.Mathlib.Omega.{arith}
use Rattle.lu_systems.proofs.workspace.invert.Goals as goal

pub returns : goal.returns
unfolding slot
returns g c =
    let a = c.args in
    let few = square_le a.n c.requires.room.order in
    let e = c.identity.ensures in
    let apart = slots_apart a.a a.b (a.n * a.n) (length (identity_m a.n)) c.requires.a_bound.2 few (omega (arith, few, length-identity_m a.n)) in
    let same : part (g.T.Real.floats c.identity.new.w) (256 * a.a) (a.n * a.n) ≡ slot a.n (g.T.Real.floats a.w.now) a.a = ap (λ (v : List Float). part v (256 * a.a) (a.n * a.n)) e ∙ slot_other a.n (g.T.Real.floats a.w.now) a.a a.b (identity_m a.n) apart in
    record {
      outcome_value = (
        c.divide_reporting.ensures.outcome_value.0 ∙ ap (lu_outcome g.T.Real.format a.n) same,
        c.divide_reporting.ensures.outcome_value.1 ∙ ap (λ (v : List Float). divided g.T.Real.format a.n a.n (256 * a.a) (256 * a.b) v c.divide_reporting.result.outcome) e,
      );
      smallest_value = c.divide_reporting.ensures.smallest_value ∙ ap (smallest_pivot g.T.Real.format a.n) same;
    }
