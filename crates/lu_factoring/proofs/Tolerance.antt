-- The pivot test's tolerance grows with the order, so what a larger order accepts a smaller one accepts. Assumes nothing.
use mathlib.Core.Path.{◌≡◌, refl, sym, ap, ◌∙◌, subst}
use mathlib.Core.Bool.{Bool, true, false, not, cond, true≢false}
use Prim.Native.Nat.{ℕ, zero, suc, ◌+◌, ◌-◌, ◌*◌, ◌^◌, ◌≤◌}
use native.Mathlib.Nat.{le_trans, mul-pos, mul-one, one-mul, mul_assoc, mul_comm, mul-le-mul_right}
use lib.IntN.{pos, negsuc}
use lib.Dec.{T, ltb}
use lib.Pow.{pow_pos}
use lib.Ieee.{Float, nan, inf, fin, Format, prec, emax, low, up, down, odd, units, round, mul, le, lt, eq, of_int}
use lib.Ieee.Fits.{down_pos, round_is}
use lib.Ieee.Exact.{HasValue, odd_sign}
use lib.Ieee.Scale.{round_same}
use lib.Ieee.Order.{round_mono, le_of_values}
use lib.Ieee.Positive.{through}
use Rattle.arithmetic_floats.specs.Float.{magnitude}
use Rattle.arithmetic_floats.proofs.Order.{or_le}
use Rattle.arithmetic_floats.proofs.Whole.{of_int_exact}
use Rattle.lu_factoring.specs.Lu.{tolerance}

-- ---- values that are not negative: NaN and +∞ among them
abbrev pub upright : Float → Bool
upright nan = true
upright (inf s) = not s
upright (fin s m e) = not s

magnitude_upright : (x : Float) → T (upright (magnitude x))
unfolding magnitude
magnitude_upright nan = tt
magnitude_upright (inf s) = tt
magnitude_upright (fin s zero e) = tt
magnitude_upright (fin s (suc m) e) = tt

value_upright : (x : Float) (a c : ℕ) → HasValue x false a c → T (upright x)
value_upright nan a c v = absurd v
value_upright (inf s) a c v = absurd v
value_upright (fin true m e) a c v = absurd (true≢false v.0)
value_upright (fin false m e) a c v = tt

units_upright : (f : Format) (q k : ℕ) → T (upright (units f false q k))
unfolding units
units_upright f q k = go (ltb (q * 2 ^ k) (2 ^ (low f + suc (emax f))))
  where
    go : (b : Bool) → T (upright (cond b (odd (suc (prec f)) false q k (low f)) (inf false)))
    go true = value_upright (odd (suc (prec f)) false q k (low f)) (q * 2 ^ k) (2 ^ low f) (odd_sign (suc (prec f)) false q k (low f))
    go false = tt

pub round_upright : (f : Format) (a c : ℕ) → T (upright (round f false a c))
round_upright f a c = subst (λ (x : Float). T (upright x)) (sym (round_is f false a c)) (units_upright f _ _)

pub le_trans_upright : (x y z : Float) → T (upright x) → T (upright y) → T (upright z) → T (le x y) → T (le y z) → T (le x z)
unfolding le lt eq
le_trans_upright nan y z p q r h k = absurd h
le_trans_upright (inf true) y z p q r h k = absurd p
le_trans_upright (inf false) nan z p q r h k = absurd h
le_trans_upright (inf false) (inf true) z p q r h k = absurd q
le_trans_upright (inf false) (inf false) z p q r h k = k
le_trans_upright (inf false) (fin s m e) z p q r h k = absurd h
le_trans_upright (fin true m e) y z p q r h k = absurd p
le_trans_upright (fin false m e) nan z p q r h k = absurd h
le_trans_upright (fin false m e) (inf true) z p q r h k = absurd q
le_trans_upright (fin false m e) (inf false) nan p q r h k = absurd k
le_trans_upright (fin false m e) (inf false) (inf true) p q r h k = absurd r
le_trans_upright (fin false m e) (inf false) (inf false) p q r h k = tt
le_trans_upright (fin false m e) (inf false) (fin t n d) p q r h k = absurd k
le_trans_upright (fin false m e) (fin true n d) z p q r h k = absurd q
le_trans_upright (fin false m e) (fin false n d) nan p q r h k = absurd k
le_trans_upright (fin false m e) (fin false n d) (inf true) p q r h k = absurd r
le_trans_upright (fin false m e) (fin false n d) (inf false) p q r h k = tt
le_trans_upright (fin false m e) (fin false n d) (fin true o g) p q r h k = absurd r
le_trans_upright (fin false m e) (fin false n d) (fin false o g) p q r h k =
    le_of_values (fin false m e) (fin false o g) (m * up e) (down e) (o * up g) (down g) (down_pos e) (down_pos g) (refl, refl) (refl, refl)
    (through (m * up e) (n * up d) (o * up g) (down e) (down d) (down g) (down_pos d) (or_le (m * up e * down d) (n * up d * down e) h) (or_le (n * up d * down g) (o * up g * down d) k))

-- ---- the tolerance is order / 2 ^ (prec - 1), rounded
pub tolerance_of : (f : Format) (k n : ℕ) (y : Float) → HasValue y false n 1 → mul f (fin false 1 (negsuc k)) y ≡ round f false n (2 ^ suc k)
unfolding mul
tolerance_of f k n nan v = absurd v
tolerance_of f k n (inf s) v = absurd v
tolerance_of f k n (fin true m e) v = absurd (true≢false v.0)
tolerance_of f k n (fin false m e) v =
    round_same f false (1 * (m * up e)) (2 ^ suc k * down e) n (2 ^ suc k) (mul-pos (pow_pos (suc k)) (down_pos e)) (pow_pos (suc k))
    (ap (λ (x : ℕ). x * 2 ^ suc k) (one-mul (m * up e) ∙ sym (mul-one (m * up e)) ∙ v.1) ∙ mul_assoc n (down e) (2 ^ suc k) ∙ ap (λ (x : ℕ). n * x) (mul_comm (down e) (2 ^ suc k)))

pub tolerance_is : (f : Format) (n : ℕ) → n ≤ 2 ^ prec f → tolerance f n ≡ round f false n (2 ^ suc (prec f - 2))
unfolding tolerance
tolerance_is f n h = tolerance_of f (prec f - 2) n (of_int f (pos n)) (of_int_exact f n h)

pub tolerance_mono : (f : Format) (n N : ℕ) → n ≤ N → N ≤ 2 ^ prec f → (x : Float) → T (le (magnitude x) (tolerance f n)) → T (le (magnitude x) (tolerance f N))
tolerance_mono f n N h l x t =
    let c = 2 ^ suc (prec f - 2) in
    subst (λ (y : Float). T (le (magnitude x) y)) (sym (tolerance_is f N l))
    (le_trans_upright (magnitude x) (round f false n c) (round f false N c) (magnitude_upright x) (round_upright f n c) (round_upright f N c)
    (subst (λ (y : Float). T (le (magnitude x) y)) (tolerance_is f n (le_trans h l)) t)
    (round_mono f n c N c (pow_pos (suc (prec f - 2))) (pow_pos (suc (prec f - 2))) (mul-le-mul_right c h)))
