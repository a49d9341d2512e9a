-- `bit_power` meets its contract: a step for each call. Assumes nothing.
use mathlib.Core.Path.{sym, ◌∙◌}
use Rattle.arithmetic_matrices.proofs.Slots.{room_kept}
use Rattle.functions_powers.proofs.WholeLaws.{identity_first, power_steps}
use Rattle.functions_powers.proofs.whole.bit_power.Goals as goal

pub multiply_bits-requires : goal.multiply_bits-requires
multiply_bits-requires g c =
    record {
      room = room_kept c.requires (g.met.T.Real.length_law c.identity.new.w ∙ c.identity.auto.w ∙ sym (g.met.T.Real.length_law c.args.w.now));
      w_value = identity_first g.T.Real.format c.args.n (g.T.Real.floats c.args.w.now) c.requires (g.T.Real.floats c.identity.new.w) c.identity.ensures;
    }

pub returns : goal.returns
returns g c =
    let a = c.args in
    power_steps g.T.Real.format a.n (g.T.Real.floats a.w.now) c.requires a.e (g.T.Real.floats c.identity.new.w) (g.T.Real.floats c.multiply_bits.new.w) (g.T.Real.floats c.copy.new.w) c.identity.ensures c.multiply_bits.ensures c.copy.ensures
