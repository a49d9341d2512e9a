-- The comparisons of floats, as the order of the standard library has them. Assumes nothing.
use Rattle.std.specs.Prelude.{◌≡◌, Float}
use Rattle.std.proofs.Common.{rules}
use Rattle.std.specs.Float.Ieee.{lt, le}
use Rattle.std.specs.Ordering.{partial_lt, partial_le, float_partial_cmp}

-- a < b where the order answers that it is less, whatever the other comparisons say
pub less_is_lt : (a b : Float) → partial_lt float_partial_cmp a b ≡ lt a b
less_is_lt a b = Prim.search rules

-- a ≤ b where the order answers that it is less or equal
pub at_most_is_le : (a b : Float) → partial_le float_partial_cmp a b ≡ le a b
unfolding le
at_most_is_le a b = Prim.search rules
