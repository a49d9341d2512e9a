-- `compute_with_room` meets its contract. Assumes nothing.
use mathlib.Core.Path.{sym}
use lib.Seq.{length-take-le}
use native.Mathlib.Omega.{arith}
use Rattle.lu.proofs.calls.compute_with_room.Goals as goal

pub slice_bounds-compute_in-end : goal.slice_bounds-compute_in-end
slice_bounds-compute_in-end g c = sym (length-take-le _ _ (omega (arith, c.requires.0, c.pivot_room-rows.ensures)))

pub compute_in-requires : goal.compute_in-requires
compute_in-requires g c = (c.requires.0, c.requires.1, c.requires.2, length-take-le _ _ (omega (arith, c.requires.0, c.pivot_room-rows.ensures)), c.requires.3, c.requires.4)
