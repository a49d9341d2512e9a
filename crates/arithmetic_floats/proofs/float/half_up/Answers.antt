-- `half_up` meets its contract, by the facts of `Halves`. Assumes nothing.
use Rattle.std.proofs.Common.{◌+◌, ◌-◌, ◌/◌, ◌%◌, ◌^◌, div-le_self, arith, lit≤}
use lib.Ieee.{binary64, low, hid}
use Rattle.arithmetic_floats.proofs.Halves.{half_small, half_cut, cut_le}
use Rattle.arithmetic_floats.proofs.float.half_up.Goals as goal

pub overflow_add-result : goal.overflow_add-result
overflow_add-result c =
    let b = c.args.bits in
    omega (arith, div-le_self (b % hid binary64 + hid binary64) (2 ^ (low binary64 - b / hid binary64)))

pub returns-then-field-lt1022 : goal.returns-then-field-lt1022
returns-then-field-lt1022 c = (half_small binary64 c.args.bits (lit≤ tt) c.if-field-lt1022.true, omega arith)

pub returns-else-field-lt1022 : goal.returns-else-field-lt1022
returns-else-field-lt1022 c =
    let b = c.args.bits in
    (half_cut binary64 b (omega arith) (omega arith) (omega arith), cut_le binary64 b)
