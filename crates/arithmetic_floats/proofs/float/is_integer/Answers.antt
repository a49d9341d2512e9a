-- `is_integer` meets its contract, from what `abs` and `round` ensure. Assumes nothing.
use Rattle.std.proofs.Common.{ap, ◌∙◌}
use lib.Ieee.{Float, binary64, lt, sub}
use Rattle.arithmetic_floats.specs.Float.{magnitude, near_integer}
use Rattle.arithmetic_floats.proofs.float.is_integer.Goals as goal

pub returns : goal.returns
unfolding near_integer
returns c =
    let p = c.args.p in
    ap (λ (v : Float). lt v _) (c.magnitude.ensures.value ∙ ap (λ (v : Float). magnitude (sub binary64 p v)) c.round.ensures)
