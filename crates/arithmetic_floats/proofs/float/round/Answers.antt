-- `round` meets its contract, by the facts of `Whole`. Assumes nothing.
use Rattle.std.proofs.Common.{◌≡◌, ℕ, ◌+◌, ◌*◌, ◌^◌, ◌<◌, ◌≤◌, false, not, T, sym, ap, ◌∙◌, subst, le_trans, lit≤, le→leb}
use lib.Ieee.{Float, binary64, low, hid, is_nan, in_float, of_int, to_bits, ne, neg, round}
use lib.Ieee.Bits.{of_bits-to_bits}
use lib.Ieee.Compare.{differs_from_itself}
use Rattle.arithmetic_floats.specs.Float.{magnitude, half_up, round_away}
use Rattle.arithmetic_floats.proofs.Signs.{magnitude_number}
use Rattle.arithmetic_floats.proofs.Whole.{round_large, round_plus, round_minus, equals_itself}
use Rattle.arithmetic_floats.proofs.float.round.Goals as goal

number : (x : Float) → ne x x ≡ false → T (not (is_nan x))
number x h = equals_itself x (λ t. subst T h t)

-- the bits that the test looks at are the magnitude's
small : (x size : Float) → size ≡ magnitude x → to_bits binary64 size < (low binary64 + 1) * hid binary64
    → to_bits binary64 (magnitude x) < (low binary64 + 1) * hid binary64
small x size e h = subst (λ (v : Float). to_bits binary64 v < (low binary64 + 1) * hid binary64) e h

pub float_to_bits-size : goal.float_to_bits-size
float_to_bits-size c = subst (λ (v : Float). T (not (is_nan v))) (sym c.magnitude-size.ensures.value) (magnitude_number c.args.x (number c.args.x c.if-x.false))

pub int_to_float-whole : goal.int_to_float-whole
unfolding in_float
int_to_float-whole c = le→leb c.half_up-whole.result (2 ^ 53) (le_trans c.half_up-whole.ensures.1 (lit≤ tt))

pub float_to_bits-x : goal.float_to_bits-x
float_to_bits-x c = number c.args.x c.if-x.false

pub returns-then-x : goal.returns-then-x
unfolding round_away
returns-then-x c =
    let is = differs_from_itself c.args.x (subst T (sym c.if-x.true) tt) in
    is ∙ ap (round_away binary64) (sym is)

pub returns-then-x-lt9223372036854775808 : goal.returns-then-x-lt9223372036854775808
unfolding of_int
returns-then-x-lt9223372036854775808 c =
    ap (λ (n : ℕ). round binary64 false n 1) (let a = c.magnitude-size in
    c.half_up-whole.ensures.0 ∙ ap half_up (of_bits-to_bits binary64 a.result (subst T (sym a.type_inv) tt) ∙ a.ensures.value)) ∙ round_plus binary64 c.args.x (subst T (sym c.well_formed.0.1) tt) (number c.args.x c.if-x.false) (small c.args.x c.magnitude-size.result c.magnitude-size.ensures.value c.if-size-lt4841369599423283200.true) c.if-x-lt9223372036854775808.true

pub returns-else-x-lt9223372036854775808 : goal.returns-else-x-lt9223372036854775808
unfolding of_int
returns-else-x-lt9223372036854775808 c =
    ap (λ (n : ℕ). neg (round binary64 false n 1)) (let a = c.magnitude-size in
    c.half_up-whole.ensures.0 ∙ ap half_up (of_bits-to_bits binary64 a.result (subst T (sym a.type_inv) tt) ∙ a.ensures.value)) ∙ round_minus binary64 c.args.x (subst T (sym c.well_formed.0.1) tt) (number c.args.x c.if-x.false) (small c.args.x c.magnitude-size.result c.magnitude-size.ensures.value c.if-size-lt4841369599423283200.true) c.if-x-lt9223372036854775808.false

pub returns-else-size-lt4841369599423283200 : goal.returns-else-size-lt4841369599423283200
returns-else-size-lt4841369599423283200 c = round_large binary64 c.args.x (subst T (sym c.well_formed.0.1) tt) (number c.args.x c.if-x.false) (subst (λ (v : Float). (low binary64 + 1) * hid binary64 ≤ to_bits binary64 v) c.magnitude-size.ensures.value c.if-size-lt4841369599423283200.false)
