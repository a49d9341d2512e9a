-- `multiply_bits` meets its contract, by the loop over the bits (`BitsDone` of WholeLaws). The measure is what is left of e. Assumes nothing.
use mathlib.Core.Path.{refl}
use lib.Dec.{lit≤}
use Rattle.arithmetic_matrices.proofs.Slots.{room_kept}
use Rattle.functions_powers.proofs.WholeLaws.{bits_start, bits_turn, bits_end}
use Rattle.functions_powers.proofs.whole.multiply_bits.Goals as goal

pub loop-rest-init : goal.loop-rest-init
loop-rest-init g c = bits_start g.T.Real.format c.args.n (g.T.Real.floats c.args.w.now) c.requires.room c.args.e c.requires.w_value

pub square-requires : goal.square-requires
square-requires g c =
    record {
      room = search room_kept;
      a_bound = (lit≤ tt, lit≤ tt, refl);
    }

pub loop-rest-preserved : goal.loop-rest-preserved
loop-rest-preserved g c = bits_turn g.T.Real.format c.args.n (g.T.Real.floats c.args.w.now) c.requires.room c.loop-rest.invariant c.multiply_bit.ensures c.square.ensures

pub returns : goal.returns
returns g c = bits_end g.T.Real.format c.args.n (g.T.Real.floats c.args.w.now) c.requires.room c.loop-rest.invariant c.multiply_bit-2.ensures c.ranges.e.fits c.loop-rest-test.false

pub multiply_bit-requires : goal.multiply_bit-requires
multiply_bit-requires g c = search room_kept

pub multiply_bit-requires-2 : goal.multiply_bit-requires-2
multiply_bit-requires-2 g c = search room_kept
