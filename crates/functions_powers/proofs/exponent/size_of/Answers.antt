-- `size_of` meets its contract. Assumes nothing.
use Prim.Native.Nat.{◌+◌}
use mathlib.Core.Path.{sym, ap, ◌∙◌}
use lib.IntN.{ℤ, nat_abs}
use Rattle.functions_powers.proofs.WholeLaws.{sign_of, complement, plain}
use native.Mathlib.Omega.{arith}
use Rattle.functions_powers.proofs.exponent.size_of.Goals as goal

pub overflow_sub-result : goal.overflow_sub-result
overflow_sub-result c =
    let k = complement c.args.e c.ranges.e (sign_of c.args.e c.ranges.e c.is_negative.ensures c.if-is_negative.true) in
    rw k.value (record { sfits = k.small })

pub overflow_cast-result : goal.overflow_cast-result
overflow_cast-result c =
    let k = complement c.args.e c.ranges.e (sign_of c.args.e c.ranges.e c.is_negative.ensures c.if-is_negative.true) in
    rw k.again (tt, record { fits = omega (arith, k.small) })

pub overflow_add-result : goal.overflow_add-result
overflow_add-result c =
    let k = complement c.args.e c.ranges.e (sign_of c.args.e c.ranges.e c.is_negative.ensures c.if-is_negative.true) in
    rw k.again (record { fits = omega (arith, k.small) })

pub overflow_cast-result-else-is_negative : goal.overflow_cast-result-else-is_negative
overflow_cast-result-else-is_negative c = plain c.args.e c.ranges.e (sign_of c.args.e c.ranges.e c.is_negative.ensures c.if-is_negative.false)

pub returns-then-is_negative : goal.returns-then-is_negative
returns-then-is_negative c =
    let k = complement c.args.e c.ranges.e (sign_of c.args.e c.ranges.e c.is_negative.ensures c.if-is_negative.true) in
    ap (λ (z : ℤ). nat_abs z + 1) k.again ∙ sym k.size
