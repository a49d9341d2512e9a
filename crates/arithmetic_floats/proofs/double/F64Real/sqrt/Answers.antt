-- `sqrt` meets its contract, by the facts of `Cases` and `Closest`. Assumes nothing.
use Rattle.std.proofs.Common.{◌≡◌, T, sym, ◌∙◌, subst, arith}
use lib.Ieee.{Float, binary64, fits, of_bits, div, lt}
use lib.Ieee.Positive.{positive}
use Rattle.arithmetic_floats.specs.Float.{+zero}
use Rattle.arithmetic_floats.specs.Root.{sqrt_of, NearestRoot}
use Rattle.arithmetic_floats.proofs.Closest.{sqrt_nearest}
use Rattle.arithmetic_floats.proofs.Cases.{above_no_nan, low_no_nan, digits_pos, sqrt_low, sqrt_mid, sqrt_top, sqrt_zero, sqrt_below}
use Rattle.arithmetic_floats.proofs.double.F64Real.sqrt.Goals as goal

above : (c : goal.Then-self) →
    T (lt +zero c.args.self)
unfolding of_bits
above c = subst T (sym c.if-self.true) tt

nearest : (x r : Float) → T (fits binary64 x) → r ≡ sqrt_of binary64 x → T (positive x) → NearestRoot binary64 x r
nearest x r held e p = subst (NearestRoot binary64 x) (sym e) (sqrt_nearest binary64 x held p)

pub float_to_bits-bits : goal.float_to_bits-bits
float_to_bits-bits c = above_no_nan c.args.self (above (search))

pub root_bits-requires : goal.root_bits-requires
root_bits-requires c =
    record {
      q_pos = digits_pos binary64 c.args.self (subst T (sym c.well_formed.0.1) tt) (above (search)) c.if-field-eq0.true;
      q_lt = omega arith;
      e_lt = omega arith;
    }

pub float_from_bits-result : goal.float_from_bits-result
float_from_bits-result c = low_no_nan binary64 c.root_bits.result c.root_bits.ensures.1

pub float_from_bits-result-then-field-lt2047 : goal.float_from_bits-result-then-field-lt2047
float_from_bits-result-then-field-lt2047 c = low_no_nan binary64 c.root_bits-then-field-lt2047.result c.root_bits-then-field-lt2047.ensures.1

pub returns-then-field-eq0 : goal.returns-then-field-eq0
returns-then-field-eq0 c =
    let e = c.root_bits.ensures.0 ∙ sym (sqrt_low binary64 c.args.self (subst T (sym c.well_formed.0.1) tt) (above (search)) c.if-field-eq0.true) in
    record { value = e; nearest_root = nearest c.args.self _ (subst T (sym c.well_formed.0.1) tt) e }

pub returns-then-field-lt2047 : goal.returns-then-field-lt2047
returns-then-field-lt2047 c =
    let e = c.root_bits-then-field-lt2047.ensures.0 ∙ sym (sqrt_mid binary64 c.args.self (subst T (sym c.well_formed.0.1) tt) (above (search)) (omega arith) c.if-field-lt2047.true) in
    record { value = e; nearest_root = nearest c.args.self _ (subst T (sym c.well_formed.0.1) tt) e }

pub returns-else-field-lt2047 : goal.returns-else-field-lt2047
returns-else-field-lt2047 c =
    let e = sqrt_top binary64 c.args.self (subst T (sym c.well_formed.0.1) tt) (above (search)) c.if-field-lt2047.false in
    record { value = e; nearest_root = nearest c.args.self _ (subst T (sym c.well_formed.0.1) tt) e }

pub returns-then-self-2 : goal.returns-then-self-2
unfolding of_bits
returns-then-self-2 c =
    let e = sqrt_zero binary64 c.args.self (subst T (sym c.if-self-2.true) tt) in
    record { value = e; nearest_root = nearest c.args.self _ (subst T (sym c.well_formed.0.1) tt) e }

pub returns-else-self-2 : goal.returns-else-self-2
unfolding of_bits div
returns-else-self-2 c =
    let e = sym (sqrt_below binary64 c.args.self (λ t. subst T c.if-self.false t) (λ t. subst T c.if-self-2.false t)) in
    record { value = e; nearest_root = nearest c.args.self _ (subst T (sym c.well_formed.0.1) tt) e }
