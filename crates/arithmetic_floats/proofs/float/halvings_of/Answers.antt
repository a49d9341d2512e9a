-- `halvings_of` meets its contract, by the facts of `Least`. Assumes nothing.
use Rattle.std.proofs.Common.{◌≡◌, ℕ, not, T, sym, ap, ◌∙◌, subst, arith}
use lib.Ieee.{Float, binary64, is_nan, le, of_bits}
use lib.Ieee.Bits.{to_bits-lt}
use lib.Ieee.Positive.{num, den}
use lib.Ieee.Scale.{finite}
use Rattle.arithmetic_floats.specs.Float.{halvings, magnitude, Least, one}
use Rattle.arithmetic_floats.proofs.Signs.{plain_magnitude}
use Rattle.arithmetic_floats.proofs.Least.{Plain, none_above, exponent_ge, at_power, past_power, halvings_magnitude, halvings_least}
use Rattle.arithmetic_floats.proofs.float.halvings_of.Goals as goal

plain : (norm size : Float) → T (finite norm) → size ≡ magnitude norm → Plain size
plain norm size h e = let p = plain_magnitude norm h in (p.0, p.1, e ∙ p.2)

pub float_to_bits-bits : goal.float_to_bits-bits
unfolding is_nan
float_to_bits-bits c = subst (λ (v : Float). T (not (is_nan v))) (sym (plain c.args.norm c.magnitude-size.result c.requires c.magnitude-size.ensures.value).2) tt

-- what the test says, at 1 as it is written out
under : (c : goal.Then-size) →
    T (le c.magnitude-size.result one)
unfolding of_bits
under c = subst T (sym c.if-size.true) tt

over : (c : goal.Else-size) →
    T (le c.magnitude-size.result one) → ⊥
unfolding of_bits
over c t = subst T c.if-size.false t

pub overflow_sub-exponent : goal.overflow_sub-exponent
overflow_sub-exponent c = exponent_ge binary64 c.magnitude-size.result (plain c.args.norm c.magnitude-size.result c.requires c.magnitude-size.ensures.value) (subst T (sym c.magnitude-size.type_inv) tt) (over (search))

pub overflow_add-result : goal.overflow_add-result
overflow_add-result c = omega (arith, to_bits-lt binary64 c.magnitude-size.result (subst T (sym c.magnitude-size.type_inv) tt))

-- both clauses, from the value
both : (x : Float) (r : ℕ) → r ≡ halvings x → (r ≡ halvings x) × Least (num x) (den x) r
both x r e = (e, subst (Least (num x) (den x)) (sym e) (halvings_least x))

pub returns-then-size : goal.returns-then-size
returns-then-size c =
    let both = both c.args.norm _ (none_above binary64 c.magnitude-size.result (plain c.args.norm c.magnitude-size.result c.requires c.magnitude-size.ensures.value) (subst T (sym c.magnitude-size.type_inv) tt) (under (search)) ∙ ap halvings c.magnitude-size.ensures.value ∙ halvings_magnitude c.args.norm) in
    record { value = both.0; least = both.1 }

pub returns-then-bits-eq0 : goal.returns-then-bits-eq0
returns-then-bits-eq0 c =
    let both = both c.args.norm _ (at_power binary64 c.magnitude-size.result (plain c.args.norm c.magnitude-size.result c.requires c.magnitude-size.ensures.value) (subst T (sym c.magnitude-size.type_inv) tt) (over (search)) c.if-bits-eq0.true ∙ ap halvings c.magnitude-size.ensures.value ∙ halvings_magnitude c.args.norm) in
    record { value = both.0; least = both.1 }

pub returns-else-bits-eq0 : goal.returns-else-bits-eq0
returns-else-bits-eq0 c =
    let both = both c.args.norm _ (past_power binary64 c.magnitude-size.result (plain c.args.norm c.magnitude-size.result c.requires c.magnitude-size.ensures.value) (subst T (sym c.magnitude-size.type_inv) tt) (over (search)) c.if-bits-eq0.false ∙ ap halvings c.magnitude-size.ensures.value ∙ halvings_magnitude c.args.norm) in
    record { value = both.0; least = both.1 }
