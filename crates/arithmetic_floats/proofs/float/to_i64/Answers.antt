-- `to_i64` meets its contract, by the facts of `Ends`. Assumes nothing.
use Rattle.std.proofs.Common.{T, sym, ap, subst}
use lib.Ieee.{of_bits, to_signed, neg}
use lib.Ieee.Compare.{differs_from_itself}
use Rattle.arithmetic_floats.proofs.Whole.{equals_itself}
use Rattle.arithmetic_floats.proofs.Ends.{top_end, bottom_end, inside_top, inside_bottom}
use Rattle.arithmetic_floats.proofs.float.to_i64.Goals as goal

pub truncating_f64_to_i64-requires : goal.truncating_f64_to_i64-requires
unfolding of_bits neg
truncating_f64_to_i64-requires c =
    let x = c.args.x in
    record {
      lower_bound = inside_bottom x (equals_itself c.args.x (λ t. subst T c.if-x.false t)) (λ t. subst T c.if-x-3.false t);
      upper_bound = inside_top x (equals_itself c.args.x (λ t. subst T c.if-x.false t)) (λ t. subst T c.if-x-2.false t);
    }

pub returns-then-x : goal.returns-then-x
unfolding to_signed
returns-then-x c = ap (to_signed 63) (sym (differs_from_itself c.args.x (subst T (sym c.if-x.true) tt)))

pub returns-then-x-2 : goal.returns-then-x-2
unfolding of_bits
returns-then-x-2 c = sym (top_end c.args.x (subst T (sym c.if-x-2.true) tt))

pub returns-then-x-3 : goal.returns-then-x-3
unfolding of_bits neg
returns-then-x-3 c = sym (bottom_end c.args.x (subst T (sym c.if-x-3.true) tt))
