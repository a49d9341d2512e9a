-- `divide_slot` meets its contract: the local room has n places, and the slots are apart. Assumes nothing.
use Prim.Native.Nat.{◌*◌}
use mathlib.Core.Path.{sym}
use lib.Seq.{length-take-le}
use Rattle.arithmetic_matrices.specs.Workspace.{slot}
use Rattle.arithmetic_matrices.proofs.MatrixLaws.{square_le}
use Rattle.arithmetic_matrices.proofs.Slots.{slots_apart}
use Rattle.functions_roots.proofs.PassLaws.{quotient_slot}
use native.Mathlib.Omega.{arith}
use Rattle.functions_roots.proofs.division.divide_slot.Goals as goal

pub slice_bounds-divide_reporting-end : goal.slice_bounds-divide_reporting-end
slice_bounds-divide_reporting-end g c = sym (length-take-le _ _ (omega (arith, c.requires.room.order, c.pivot_room-rows.ensures)))

pub divide_reporting-requires : goal.divide_reporting-requires
divide_reporting-requires g c =
    let few = square_le c.args.n c.requires.room.order in
    let long = g.met.T.Real.length_law c.args.w.now in (
      omega (arith, c.requires.room.order),
      omega (arith, few, c.requires.room.space, long),
      omega (arith, few, c.requires.room.space, c.requires.x_bound.0, long),
      slots_apart 2 c.args.x (c.args.n * c.args.n) (c.args.n * c.args.n) c.requires.x_bound.1 few few,
      length-take-le _ _ (omega (arith, c.requires.room.order, c.pivot_room-rows.ensures)),
    )

pub returns : goal.returns
unfolding slot
returns g c =
    let d = c.divide_reporting in
    record {
      slot_quotient = quotient_slot g.T.Real.format c.args.n c.args.x (g.T.Real.floats c.args.w.now) (g.T.Real.floats d.new.w) d.result.outcome c.requires.room c.requires.x_bound.0 c.requires.x_bound.1 d.ensures.outcome_value.0 d.ensures.outcome_value.1;
      smallest_value = d.ensures.smallest_value;
    }
