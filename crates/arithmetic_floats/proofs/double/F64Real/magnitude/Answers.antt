-- `magnitude` meets its contract: one law for a NaN, and one for every number. Assumes nothing.
use Rattle.std.proofs.Common.{not, T, sym, subst}
use lib.Ieee.{binary64, is_nan}
use Rattle.arithmetic_floats.proofs.Whole.{equals_itself}
use Rattle.arithmetic_floats.proofs.LowBits.{nan_kept, low_bits_no_nan, low_bits_kept}
use Rattle.arithmetic_floats.proofs.double.F64Real.magnitude.Goals as goal

number : (c : goal.Else-self) →
    T (not (is_nan c.args.self))
number c = equals_itself c.args.self (λ t. subst T c.if-self.false t)

pub returns-then-self : goal.returns-then-self
returns-then-self c =
    let both = nan_kept binary64 c.args.self (subst T (sym c.well_formed.0.1) tt) c.if-self.true in
    record { value = both.0; low_bits = both.1 }

pub returns-else-self : goal.returns-else-self
returns-else-self c =
    let both = low_bits_kept binary64 c.args.self (subst T (sym c.well_formed.0.1) tt) (number (search)) in
    record { value = both.0; low_bits = both.1 }

pub float_to_bits-result : goal.float_to_bits-result
float_to_bits-result c = number (search)

pub float_from_bits-result : goal.float_from_bits-result
float_from_bits-result c = low_bits_no_nan binary64 c.args.self (subst T (sym c.well_formed.0.1) tt) (number (search))
