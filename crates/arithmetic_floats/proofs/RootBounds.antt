-- The root of a number above the square of y is y at least, and below no t up to y, over the format. Assumes nothing.
use Rattle.std.proofs.Common.{◌≡◌, ℕ, ◌+◌, ◌-◌, ◌*◌, ◌^◌, ◌<◌, ◌≤◌, true, false, T, ◌⊎◌, sym, refl, ap, ◌∙◌, inl, inr, le_trans, le_of_eq, mul-le-mul_right, mul_assoc, mul-le-mul, mul-pos, mul_right_comm, le_of_mul-le-mul_right, arith, pow_pos, le-ltb}
use native.Mathlib.Nat.{mul-mul-mul_comm}
use lib.Ieee.{Float, nan, inf, fin, Format, binary32, binary64, prec, low, up, down, fits, lt, eq, le, mul, of_int, round}
use lib.Ieee.Exact.{HasValue}
use lib.Ieee.Order.{le_of_values}
use lib.Ieee.Positive.{num, den, den_pos, positive, positive_of_value, own_value, value_pos, above, above_of_le, value→cross, le→cross, values_of_le, le_trans_positive}
use Rattle.arithmetic_floats.specs.Float.{inverse_power_of_two}
use Rattle.arithmetic_floats.specs.Root.{count, sqrt_of, NearestRoot, hundred_steps}
use Rattle.arithmetic_floats.proofs.Order.{split, or_left}
use Rattle.arithmetic_floats.proofs.Squares.{sq_twice}
use Rattle.arithmetic_floats.proofs.Counts.{count_value}
use Rattle.arithmetic_floats.proofs.Closest.{sqrt_nearest}

-- ---- in smallest values

root_reaches : (f : Format) (x y : Float) → T (fits f x) → T (positive x) → T (fits f y) → count f y * count f y ≤ count f x * 2 ^ low f → count f y ≤ count f (sqrt_of f x)
root_reaches f x y hx px hy h = go (split (count f (sqrt_of f x)) (count f y))
  where
    near : NearestRoot f x (sqrt_of f x)
    near = sqrt_nearest f x hx px

    clash : (a r n : ℕ) → a * a ≤ n → r < a → 4 * n < (a + r) * (a + r) → ⊥
    clash a r n k l m =
        let b : (a + r) * (a + r) ≤ a * 2 * (a * 2) = let s : a + r ≤ a * 2 = omega arith in mul-le-mul s s in
        omega (arith, sq_twice a)

    go : (count f (sqrt_of f x) < count f y) ⊎ (count f y ≤ count f (sqrt_of f x)) → count f y ≤ count f (sqrt_of f x)
    go (inl l) = absurd (clash (count f y) (count f (sqrt_of f x)) (count f x * 2 ^ low f) h l (near.under y hy l))
    go (inr g) = g

-- ---- as a test

lt_le : (x y : Float) → T (lt x y) → T (le x y)
unfolding le
lt_le x y h = or_left (lt x y) (eq x y) h

-- y / L is a / d, and the square of that is n / L at most
squares : (y L a d n : ℕ) → 0 < d → a * L ≡ y * d → a * a * L ≤ n * (d * d) → y * y ≤ n * L
squares y L a d n D e h =
    le_of_mul-le-mul_right
    (le_trans (le_of_eq (mul-mul-mul_comm y y d d ∙ ap (λ (z : ℕ). z * z) (sym e) ∙ mul-mul-mul_comm a L a L ∙ sym (mul_assoc (a * a) L L)))
    (le_trans (mul-le-mul_right L h) (le_of_eq (mul_right_comm n (d * d) L))))
    (mul-pos D D)

not_below : (t r : Float) → T (positive t) → T (positive r) → T (le t r) → lt r t ≡ false
unfolding lt
not_below nan r p q h = absurd p
not_below (inf s) r p q h = absurd p
not_below (fin true m e) r p q h = absurd p
not_below (fin false m e) nan p q h = absurd q
not_below (fin false m e) (inf s) p q h = absurd q
not_below (fin false m e) (fin true n d) p q h = absurd q
not_below (fin false m e) (fin false n d) p q h = le-ltb (n * up d * down e) (m * up e * down d) (le→cross (fin false m e) (fin false n d) p q h)

square_positive : (y s : Float) → T (positive y) → HasValue s false (num y * num y) (den y * den y) → T (positive s)
square_positive y s p v =
    let n = value_pos y (num y) (den y) p (den_pos y) (own_value y p) in
    positive_of_value s (num y * num y) (den y * den y) v (mul-pos n n)

-- s is the square of y, and t at most y: the root of a finite x from s on is not below t.
finite_root : (f : Format) (x y s t : Float) → T (fits f x) → T (positive x) → T (fits f y) → T (positive y) → T (positive t)
    → HasValue s false (num y * num y) (den y * den y) → T (le t y) → T (le s x) → lt (sqrt_of f x) t ≡ false
finite_root f x y s t hx px hy py pt v l h =
    let near = sqrt_nearest f x hx px in
    let r = sqrt_of f x in
    let cy = count_value f y hy py in
    let reached = root_reaches f x y hx px hy
    (squares (count f y) (2 ^ low f) (num y) (den y) (count f x) (den_pos y) (value→cross y (count f y) (2 ^ low f) cy)
    (values_of_le s x (num y * num y) (den y * den y) (count f x) (2 ^ low f) (square_positive y s py v) px v (count_value f x hx px) h)) in
    let up_to_lem = le_of_values y r (count f y) (2 ^ low f) (count f r) (2 ^ low f) (pow_pos (low f)) (pow_pos (low f)) cy (count_value f r near.held near.plus) (mul-le-mul_right (2 ^ low f) reached) in
    not_below t r pt near.plus (le_trans_positive t y r pt py near.plus l up_to_lem)

infinite : (f : Format) (t : Float) → T (positive t) → lt (sqrt_of f (inf false)) t ≡ false
unfolding sqrt_of lt
infinite f nan p = refl
infinite f (inf s) p = absurd p
infinite f (fin s m e) p = refl

-- nor is that of any x above s
pub root_not_below : (f : Format) (x y s t : Float) → T (fits f x) → T (fits f y) → T (positive y) → T (positive t)
    → HasValue s false (num y * num y) (den y * den y) → T (le t y) → T (lt s x) → lt (sqrt_of f x) t ≡ false
root_not_below f x y s t hx hy py pt v l h = go x hx (lt_le s x h) (above_of_le s x (square_positive y s py v) (lt_le s x h))
  where
    go : (x : Float) → T (fits f x) → T (le s x) → T (above x) → lt (sqrt_of f x) t ≡ false
    go nan hx k a = absurd a
    go (inf true) hx k a = absurd a
    go (inf false) hx k a = infinite f t pt
    go (fin true m e) hx k a = absurd a
    go (fin false m e) hx k a = finite_root f (fin false m e) y s t hx a hy py pt v l k

-- The root of a number above 2 ^ -2 k is 2 ^ -k at least, and so not below a hundred steps, 100 * 2 ^ (1 - prec), where k is prec - 13: 40 for binary64.
pub large_root : (f : Format) (x : Float) → T (fits f x) → T (lt (inverse_power_of_two (2 * (prec f - 13))) x) → lt (sqrt_of f x) (hundred_steps f) ≡ false
unfolding fits le mul of_int hundred_steps round
large_root binary32 x h l = root_not_below binary32 x (inverse_power_of_two (prec binary32 - 13)) (inverse_power_of_two (2 * (prec binary32 - 13))) (hundred_steps binary32) h tt tt tt (refl, refl) tt l
large_root binary64 x h l = root_not_below binary64 x (inverse_power_of_two (prec binary64 - 13)) (inverse_power_of_two (2 * (prec binary64 - 13))) (hundred_steps binary64) h tt tt tt (refl, refl) tt l
