-- `integer_of` meets its contract, from what `round` and `to_i64` ensure. Assumes nothing.
use Rattle.std.proofs.Common.{ap, ◌∙◌, to_z-of_z, w64}
use lib.Ieee.{to_signed}
use Rattle.arithmetic_floats.specs.Float.{integer_of}
use Rattle.arithmetic_floats.proofs.float.integer_of.Goals as goal

pub returns : goal.returns
unfolding integer_of
returns c = to_z-of_z {w = w64} (record { sfits = c.to_i64.type_inv }) ∙ c.to_i64.ensures ∙ ap (to_signed 63) c.round.ensures
