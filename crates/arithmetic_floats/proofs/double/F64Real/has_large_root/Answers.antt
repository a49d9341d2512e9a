-- What the comparison says of the root. Assumes nothing.
use Rattle.std.proofs.Common.{T, sym, subst}
use lib.Ieee.{binary64, of_bits}
use Rattle.arithmetic_floats.proofs.RootBounds.{large_root}
use Rattle.arithmetic_floats.proofs.double.F64Real.has_large_root.Goals as goal

pub returns : goal.returns
unfolding of_bits
returns c = λ e. large_root binary64 c.args.self (subst T (sym c.well_formed.0.1) tt) (subst T (sym e) tt)
