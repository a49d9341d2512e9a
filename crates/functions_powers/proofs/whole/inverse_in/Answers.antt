-- `inverse_in` meets its contract. Assumes nothing.
use mathlib.Core.Path.{sym}
use lib.Seq.{length-take-le}
use native.Mathlib.Omega.{arith}
use Rattle.functions_powers.proofs.whole.inverse_in.Goals as goal

pub slice_bounds-take_inverse-end : goal.slice_bounds-take_inverse-end
slice_bounds-take_inverse-end g c = sym (length-take-le _ _ (omega (arith, c.requires.order, c.pivot_room-pivots.ensures)))

pub take_inverse-requires : goal.take_inverse-requires
take_inverse-requires g c =
    record {
      room = c.requires;
      pivots_len = length-take-le _ _ (omega (arith, c.requires.order, c.pivot_room-pivots.ensures));
    }
