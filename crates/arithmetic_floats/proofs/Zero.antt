-- Zeros under f32's and f64's operations: what a sum, a difference, a product and a quotient with a zero come to, signs included.
-- `Zero x`: x is +0 or -0. `Plus x`: x is not -0. Assumes nothing.
use Rattle.std.proofs.Common.{◌≡◌, ℕ, zero, suc, ◌+◌, ◌-◌, ◌*◌, ◌/◌, ◌%◌, ◌^◌, ◌<◌, ◌≤◌, Bool, true, false, cond, not, ◌&&◌, T, eqb, ltb, leb, ℤ, pos, negsuc, sym, refl, ap, ◌∙◌, subst, subst₂, inl, inr, true≢false, suc-le-suc, le_trans, le_of_eq, lt_of_lt_of_le, add-zero, lt_irrefl, mul-le-mul_right, zero-lt-suc, mul_assoc, mul_comm, lt_of_mul-lt-mul_right, mul-lt-mul_of_pos_right, mul-pos, one-mul, mul-zero, le-div_iff_mul-le, zero-mul, mul-one, mul_right_comm, mul_left_comm, arith, eqb→eq, ltb→lt, lt→ltb, leb→le, pow_pos, pow-add}
use Prim.Native.Nat.{compare}
use native.Mathlib.Nat.{eq_of_mul-eq-mul_right, pow-succ', div-div-eq-div-mul, sub-zero}
use mathlib.Core.Bool.{beq, false≢true}
use lib.Dec.{leb-suc-zero}
use lib.Pow.{pow-lt}
use lib.Ieee.{Float, nan, inf, fin, Format, prec, emax, low, unlike, up, down, size, nearest, odd, units, round, neg, sum, add, sub, mul, div, fits, to_bits, of_bits, hid, top}
use lib.Ieee.Digits.{size_reaches}
use lib.Ieee.Fits.{round-fits, round_is, up_pos, down_pos, and_l, and_r, neg-fits, two, two-le_pos}
use lib.Ieee.Exact.{HasValue, round_exact, odd_sign}
use lib.Ieee.Nearest.{nearest-ge, div_same}
use lib.Ieee.Bits.{of_bits-to_bits, is_true}
use Rattle.arithmetic_floats.specs.Float.{Finite}
use Rattle.arithmetic_floats.proofs.Order.{split}

-- the two zeros
abbrev pub zero_of : Bool → Float
zero_of s = fin s 0 (pos 0)

abbrev pub Zero : Float → Type 0
Zero x = (s : Bool) × (x ≡ zero_of s)

-- x is not -0
abbrev pub Plus : Float → Type 0
Plus x = x ≡ zero_of true → ⊥

abbrev pub Fits : Format → Float → Type 0
Fits f x = T (fits f x)

pub zero_fits : (f : Format) (s : Bool) → Fits f (zero_of s)
unfolding fits
zero_fits f s = tt

-- ---- constructors told apart
abbrev fin_sign : Float → Bool
fin_sign nan = false
fin_sign (inf s) = false
fin_sign (fin s m e) = s

pub plus_of_nan : Plus nan
plus_of_nan h = false≢true (ap fin_sign h)

pub plus_of_inf : (s : Bool) → Plus (inf s)
plus_of_inf s h = false≢true (ap fin_sign h)

pub plus_of_positive : (m : ℕ) (e : ℤ) → Plus (fin false m e)
plus_of_positive m e h = false≢true (ap fin_sign h)

-- ---- what `fits` says of a number
two_up : (p : ℕ) → 0 < p → 2 * p ≡ 1 → ⊥
two_up p h e = omega arith

flat : (e : ℤ) → up e * down e ≡ 1 → e ≡ pos 0
flat (pos zero) h = refl
flat (pos (suc k)) h = absurd (two_up (2 ^ k) (pow_pos k) (sym (pow-succ' 2 k) ∙ sym (mul-one (2 ^ suc k)) ∙ h))
flat (negsuc k) h = absurd (two_up (2 ^ k) (pow_pos k) (sym (pow-succ' 2 k) ∙ sym (one-mul (2 ^ suc k)) ∙ h))

pub zero_exp : (f : Format) (s : Bool) (e : ℤ) → T (fits f (fin s zero e)) → e ≡ pos 0
unfolding fits
zero_exp f s e t = flat e (eqb→eq (up e * down e) 1 t)

low_exp : (L k : ℕ) → 2 ^ suc k ≤ 2 ^ L → suc k ≤ L
low_exp L k h = elim (split k L) [ inl p ↦ p | inr p ↦ absurd (lt_irrefl (2 ^ L) (lt_of_lt_of_le (pow-lt (suc-le-suc p)) h)) ]

sub_back : (L k : ℕ) → suc k ≤ L → L - suc k + suc k ≡ L
sub_back L k h = omega arith

shift_of : (f : Format) (e : ℤ) → down e ≤ 2 ^ low f → (j : ℕ) × (up e * 2 ^ low f ≡ 2 ^ j * down e)
shift_of f (pos k) h = (k + low f, sym (pow-add 2 k (low f)) ∙ sym (mul-one (2 ^ (k + low f))))
shift_of f (negsuc k) h =
    let g : suc k ≤ low f = low_exp (low f) k h in
    (low f - suc k, one-mul (2 ^ low f) ∙ ap (λ (x : ℕ). 2 ^ x) (sym (sub_back (low f) k g)) ∙ pow-add 2 (low f - suc k) (suc k))

-- the parts of `fits` at a number
pub record Number (f : Format) (m : ℕ) (e : ℤ) : Type 0 where
  pub few : m < 2 ^ prec f
  pub fine : down e ≤ 2 ^ low f
  pub under : m * up e < 2 ^ suc (emax f) * down e

pub fits_parts : (f : Format) (s : Bool) (m : ℕ) (e : ℤ) → T (fits f (fin s m e)) → Number f m e
unfolding fits
fits_parts f s zero e t =
    subst (λ (g : ℤ). Number f 0 g) (sym (zero_exp f s e t)) (record { few = pow_pos (prec f); fine = pow_pos (low f); under = lt_of_lt_of_le (pow_pos (suc (emax f))) (le_of_eq (sym (mul-one (2 ^ suc (emax f))))) })
fits_parts f s (suc m) e t =
    let a : Bool = eqb (suc m % 2) 1 in
    let b : Bool = ltb (suc m) (2 ^ prec f) in
    let c : Bool = leb (down e) (2 ^ low f) in
    let d : Bool = ltb (suc m * up e) (2 ^ suc (emax f) * down e) in
    record {
      few = ltb→lt (suc m) (2 ^ prec f) (and_r a b (and_l (a && b) c (and_l (a && b && c) d t)));
      fine = leb→le (down e) (2 ^ low f) (and_r (a && b) c (and_l (a && b && c) d t));
      under = ltb→lt (suc m * up e) (2 ^ suc (emax f) * down e) (and_r (a && b && c) d t);
    }

-- a value that fits is a whole number of the format's smallest values
unit_count : (f : Format) (s : Bool) (m : ℕ) (e : ℤ) → Fits f (fin s m e) → (u : ℕ) × (m * up e * 2 ^ low f ≡ u * down e)
unit_count f s m e t =
    let j = shift_of f e (fits_parts f s m e t).fine in
    (m * 2 ^ j.0, mul_assoc m (up e) (2 ^ low f) ∙ ap (λ (x : ℕ). m * x) j.1 ∙ sym (mul_assoc m (2 ^ j.0) (down e)))

-- ---- a value that fits is known by its sign and its fraction
units_of : (f : Format) (x : Float) (s : Bool) (a c : ℕ) → 0 < c → HasValue x s a c
    → to_bits f x ≡ cond s (top f) 0 + (size (a * 2 ^ low f / c) - prec f) * hid f + a * 2 ^ low f / c / 2 ^ (size (a * 2 ^ low f / c) - prec f)
unfolding to_bits
units_of f (fin t m e) s a c C v =
    let q : m * up e * 2 ^ low f / down e ≡ a * 2 ^ low f / c =
    div_same (m * up e * 2 ^ low f) (down e) (a * 2 ^ low f) c (down_pos e) C
    (mul_right_comm (m * up e) (2 ^ low f) c ∙ ap (λ (x : ℕ). x * 2 ^ low f) v.1 ∙ mul_right_comm a (down e) (2 ^ low f)) in
    λ i. cond (v.0 i) (top f) 0 + (size (q i) - prec f) * hid f + q i / 2 ^ (size (q i) - prec f)
units_of f nan s a c C v = elim v [ ]
units_of f (inf _) s a c C v = elim v [ ]

pub value_unique : (f : Format) (x y : Float) (s : Bool) (a c : ℕ) → 0 < c → Fits f x → Fits f y → HasValue x s a c → HasValue y s a c → x ≡ y
value_unique f x y s a c C p q v w =
    sym (of_bits-to_bits f x p) ∙ ap (of_bits f) (units_of f x s a c C v ∙ sym (units_of f y s a c C w)) ∙ of_bits-to_bits f y q

-- ---- rounding what the format holds
round_fit : (f : Format) (s : Bool) (m : ℕ) (e : ℤ) (a c : ℕ) → 0 < c → Fits f (fin s m e) → m * up e * c ≡ a * down e → round f s a c ≡ fin s m e
round_fit f s m e a c C t h =
    let n = fits_parts f s m e t in
    let j = shift_of f e n.fine in
    let u = m * 2 ^ j.0 in
    let uv : m * up e * 2 ^ low f ≡ u * down e = mul_assoc m (up e) (2 ^ low f) ∙ ap (λ (x : ℕ). m * x) j.1 ∙ sym (mul_assoc m (2 ^ j.0) (down e)) in
    let small : u < 2 ^ (low f + suc (emax f)) =
    lt_of_mul-lt-mul_right (down e)
    (subst (λ (x : ℕ). x < 2 ^ (low f + suc (emax f)) * down e) uv
    (lt_of_lt_of_le (mul-lt-mul_of_pos_right n.under (pow_pos (low f)))
    (le_of_eq (simp (mul_assoc, mul_comm, mul_left_comm, pow-add))))) in
    let exact : a * 2 ^ low f ≡ u * c =
    eq_of_mul-eq-mul_right (down e) (down_pos e) (a * 2 ^ low f) (u * c)
    (mul_right_comm a (2 ^ low f) (down e) ∙ ap (λ (x : ℕ). x * 2 ^ low f) (sym h) ∙ mul_right_comm (m * up e) c (2 ^ low f) ∙ ap (λ (x : ℕ). x * c) uv ∙ mul_right_comm u (down e) c) in
    value_unique f (round f s a c) (fin s m e) s a c C (round-fits f s a c) t (round_exact f s a c m j.0 C n.few small exact) (refl, h)

round_zero : (f : Format) (s : Bool) (c : ℕ) → 0 < c → round f s 0 c ≡ zero_of s
round_zero f s c C = round_fit f s 0 (pos 0) 0 c C (zero_fits f s) (zero-mul c)

-- ---- a sum with a zero
leads : (m u c a d : ℕ) → 0 < u → 0 < c → suc m * u * c ≡ a * d → 0 < a
leads m u c zero d U C h = absurd (lt_irrefl 0 (subst (λ (x : ℕ). 0 < x) (h ∙ zero-mul d) (mul-pos (mul-pos (zero-lt-suc m) U) C)))
leads m u c (suc a) d U C h = zero-lt-suc a

-- a number above 0 that is negative is not a zero, and -0 is excluded
not_minus : (f : Format) (m : ℕ) (e : ℤ) → Fits f (fin true m e) → Plus (fin true m e) → (k : ℕ) × (m ≡ suc k)
not_minus f zero e t p = absurd (p (ap (fin true 0) (zero_exp f true e t)))
not_minus f (suc m) e t p = (m, refl)

cond_false : (b : Bool) (x y : Float) → b ≡ false → cond b x y ≡ y
cond_false b x y h = ap (λ (c : Bool). cond c x y) h

sum_zero : (f : Format) (s : Bool) (m : ℕ) (e : ℤ) (a : ℕ) (t : Bool) (c : ℕ) → 0 < c → Fits f (fin s m e) → Plus (fin s m e) → m * up e * c ≡ a * down e → sum f s a t 0 c ≡ fin s m e
unfolding sum
sum_zero f true m e a true c C fit p h = ap (λ (x : ℕ). round f true x c) (add-zero a) ∙ round_fit f true m e a c C fit h
sum_zero f false m e a false c C fit p h = ap (λ (x : ℕ). round f false x c) (add-zero a) ∙ round_fit f false m e a c C fit h
sum_zero f false m e a true c C fit p h =
    cond_false (ltb a 0) (round f true (0 - a) c) (round f false (a - 0) c) (leb-suc-zero a)
    ∙ ap (λ (x : ℕ). round f false x c) (sub-zero a) ∙ round_fit f false m e a c C fit h
sum_zero f true m e a false c C fit p h =
    let k = not_minus f m e fit p in
    let A : 0 < a = leads k.0 (up e) c a (down e) (up_pos e) C (subst (λ (x : ℕ). x * up e * c ≡ a * down e) k.1 h) in
    cond_false (ltb a 0) (round f false (0 - a) c) (round f (ltb 0 a) (a - 0) c) (leb-suc-zero a)
    ∙ ap (λ (b : Bool). round f b (a - 0) c) (is_true (ltb 0 a) (lt→ltb 0 a A))
    ∙ ap (λ (x : ℕ). round f true x c) (sub-zero a) ∙ round_fit f true m e a c C fit h

add_zero_of : (f : Format) (x : Float) (t : Bool) → Fits f x → Plus x → add f x (zero_of t) ≡ x
unfolding add
add_zero_of f nan t fit p = refl
add_zero_of f (inf s) t fit p = refl
add_zero_of f (fin s m e) t fit p =
    ap (λ (b : ℕ). sum f s (m * up e * 1) t b (down e * 1)) (zero-mul (down e))
    ∙ sum_zero f s m e (m * up e * 1) t (down e * 1) (mul-pos (down_pos e) (zero-lt-suc 0)) fit p
    (sym (mul_assoc (m * up e) (down e) 1) ∙ mul_right_comm (m * up e) (down e) 1)

pub add_zero_right : (f : Format) (x z : Float) → Fits f x → Plus x → Zero z → add f x z ≡ x
add_zero_right f x z fit p o = ap (add f x) o.1 ∙ add_zero_of f x o.0 fit p

-- ---- a sum whose first part is not -0 is not -0
units_plus : (f : Format) (s : Bool) (q k : ℕ) → (T s → 0 < q) → Plus (units f s q k)
unfolding units
units_plus f s q k h = go (ltb (q * 2 ^ k) (2 ^ (low f + suc (emax f))))
  where
    same : (s : Bool) → (T s → 0 < q) → HasValue (zero_of true) s (q * 2 ^ k) (2 ^ low f) → ⊥
    same false h v = true≢false v.0
    same true h v = lt_irrefl 0 (lt_of_lt_of_le (mul-pos (mul-pos (h tt) (pow_pos k)) (zero-lt-suc 0)) (le_of_eq (sym v.1 ∙ zero-mul (2 ^ low f))))

    go : (b : Bool) → Plus (cond b (odd (suc (prec f)) s q k (low f)) (inf s))
    go true e = same s h (subst (λ (x : Float). HasValue x s (q * 2 ^ k) (2 ^ low f)) e (odd_sign (suc (prec f)) s q k (low f)))
    go false e = plus_of_inf s e

less : (z p : ℕ) → 0 < p → 0 < z → z - p < z
less z p P Z = omega arith

none : (z p : ℕ) → z ≤ 0 → z - p ≡ 0
none z p Z = omega arith

reached : (p n : ℕ) → 0 < p → 0 < n → 2 ^ (size n - p) ≤ n
reached p n P N = elim (split 0 (size n)) [ inl h ↦ size_reaches n (size n - p) (less (size n) p P h) | inr h ↦ subst (λ (x : ℕ). 2 ^ x ≤ n) (sym (none (size n) p h)) N ]

kept_pos : (p n : ℕ) → 0 < p → 0 < n → 0 < n / 2 ^ (size n - p)
kept_pos p n P N = (le-div_iff_mul-le (pow_pos (size n - p))).1 (le_trans (le_of_eq (one-mul (2 ^ (size n - p)))) (reached p n P N))

round_plus : (f : Format) (s : Bool) (num den : ℕ) → 0 < den → (T s → den ≤ num * 2 ^ low f) → Plus (round f s num den)
round_plus f s num den D h =
    let n = num * 2 ^ low f in
    let k = size (n / den) - prec f in
    let u = den * 2 ^ k in
    subst Plus (sym (round_is f s num den))
    (units_plus f s (nearest (n / u) (compare (n % u * 2) u)) k
    (λ t. le_trans (subst (λ (x : ℕ). 0 < x) (div-div-eq-div-mul n den (2 ^ k)) (kept_pos (prec f) (n / den) (two-le_pos (prec f) (two f)) ((le-div_iff_mul-le D).1 (le_trans (le_of_eq (one-mul den)) (h t))))) (nearest-ge (n / u) (compare (n % u * 2) u))))

gap : (d y P Y X c : ℕ) → (d + y) * P ≡ X * c → y * P ≡ Y * c → Y < X → c ≤ d * P
gap d y P Y X c h g l = omega (arith, mul-le-mul_right c l)

above_part : (x y : ℕ) → y < x → x - y + y ≡ x
above_part x y h = omega arith

-- the difference of two whole numbers of 1 / P is one at least
difference : (x y P Y X c : ℕ) → 0 < P → x * P ≡ X * c → y * P ≡ Y * c → y < x → c ≤ (x - y) * P
difference x y P Y X c p h g l =
    gap (x - y) y P Y X c (ap (λ (z : ℕ). z * P) (above_part x y l) ∙ h) g
    (lt_of_mul-lt-mul_right c (subst (λ (z : ℕ). z < X * c) g (subst (λ (z : ℕ). y * P < z) h (mul-lt-mul_of_pos_right l p))))

-- and so is a sum, where the first is not 0
together : (x y P X c : ℕ) → 0 < P → x * P ≡ X * c → 0 < x → c ≤ (x + y) * P
together x y P zero c p h l = absurd (lt_irrefl 0 (lt_of_lt_of_le (mul-pos l p) (le_of_eq (h ∙ zero-mul c))))
together x y P (suc X) c p h l = omega arith

sum_plus : (f : Format) (s : Bool) (a : ℕ) (t : Bool) (b c A B : ℕ) → 0 < c → (T s → 0 < a) → a * 2 ^ low f ≡ A * c → b * 2 ^ low f ≡ B * c → Plus (sum f s a t b c)
unfolding sum
sum_plus f true a true b c A B C n h g = round_plus f true (a + b) c C (λ z. together a b (2 ^ low f) A c (pow_pos (low f)) h (n tt))
sum_plus f false a false b c A B C n h g = round_plus f false (a + b) c C (λ z. absurd z)
sum_plus f true a false b c A B C n h g = go (ltb a b) (ltb b a) (ltb→lt b a)
  where
    go : (x y : Bool) → (T y → b < a) → Plus (cond x (round f false (b - a) c) (round f y (a - b) c))
    go true y l = round_plus f false (b - a) c C (λ z. absurd z)
    go false y l = round_plus f y (a - b) c C (λ z. difference a b (2 ^ low f) B A c (pow_pos (low f)) h g (l z))
sum_plus f false a true b c A B C n h g = go (ltb a b) (ltb→lt a b)
  where
    go : (x : Bool) → (T x → a < b) → Plus (cond x (round f true (b - a) c) (round f false (a - b) c))
    go true l = round_plus f true (b - a) c C (λ z. difference b a (2 ^ low f) A B c (pow_pos (low f)) g h (l tt))
    go false l = round_plus f false (a - b) c C (λ z. absurd z)

scaled_units : (x P u de dd : ℕ) → x * P ≡ u * de → x * dd * P ≡ u * (de * dd)
scaled_units x P u de dd h = mul_right_comm x dd P ∙ ap (λ (z : ℕ). z * dd) h ∙ mul_assoc u de dd

pub add-plus : (f : Format) (x y : Float) → Fits f x → Fits f y → Plus x → Plus (add f x y)
unfolding add
add-plus f nan y p q h = plus_of_nan
add-plus f (inf s) nan p q h = plus_of_nan
add-plus f (inf s) (inf t) p q h = go (beq s t)
  where
    go : (b : Bool) → Plus (cond b (inf s) nan)
    go true = plus_of_inf s
    go false = plus_of_nan
add-plus f (inf s) (fin t n d) p q h = plus_of_inf s
add-plus f (fin s m e) nan p q h = plus_of_nan
add-plus f (fin s m e) (inf t) p q h = plus_of_inf t
add-plus f (fin s m e) (fin t n d) p q h =
    let a = unit_count f s m e p in
    let b = unit_count f t n d q in
    sum_plus f s (m * up e * down d) t (n * up d * down e) (down e * down d) a.0 b.0 (mul-pos (down_pos e) (down_pos d)) (first s p h)
    (scaled_units (m * up e) (2 ^ low f) a.0 (down e) (down d) a.1)
    (scaled_units (n * up d) (2 ^ low f) b.0 (down d) (down e) b.1 ∙ ap (λ (x : ℕ). b.0 * x) (mul_comm (down d) (down e)))
  where
    first : (s : Bool) → Fits f (fin s m e) → Plus (fin s m e) → T s → 0 < m * up e * down d
    first true p h z = let k = not_minus f m e p h in subst (λ (x : ℕ). 0 < x * up e * down d) (sym k.1) (mul-pos (mul-pos (zero-lt-suc k.0) (up_pos e)) (down_pos d))
    first false p h z = absurd z

-- ---- the negative, a difference
pub neg_zero : (z : Float) → Zero z → Zero (neg z)
unfolding neg
neg_zero z o = (not o.0, ap neg o.1)

pub sub_zero_right : (f : Format) (x z : Float) → Fits f x → Plus x → Zero z → sub f x z ≡ x
unfolding sub
sub_zero_right f x z fit p o = add_zero_right f x (neg z) fit p (neg_zero z o)

pub sub-plus : (f : Format) (x y : Float) → Fits f x → Fits f y → Plus x → Plus (sub f x y)
unfolding sub
sub-plus f x y p q h = add-plus f x (neg y) p (neg-fits f y q) h

-- a zero less a zero is a zero
zeros : (f : Format) (s t : Bool) → Zero (add f (zero_of s) (zero_of t))
unfolding add sum
zeros f true true = (true, round_zero f true 1 (zero-lt-suc 0))
zeros f false false = (false, round_zero f false 1 (zero-lt-suc 0))
zeros f true false = (false, round_zero f false 1 (zero-lt-suc 0))
zeros f false true = (false, round_zero f false 1 (zero-lt-suc 0))

pub add_zeros : (f : Format) (x y : Float) → Zero x → Zero y → Zero (add f x y)
add_zeros f x y p q = subst₂ (λ (a b : Float). Zero (add f a b)) (sym p.1) (sym q.1) (zeros f p.0 q.0)

pub sub_zeros : (f : Format) (x y : Float) → Zero x → Zero y → Zero (sub f x y)
unfolding sub
sub_zeros f x y p q = add_zeros f x (neg y) p (neg_zero y q)

-- ---- a product or a quotient with a zero that is finite is a zero: nothing is asked of the other operand
mul_zero_of : (f : Format) (x : Float) (t : Bool) → Finite (mul f x (zero_of t)) → Zero (mul f x (zero_of t))
unfolding mul
mul_zero_of f nan t h = absurd h
mul_zero_of f (inf s) t h = absurd h
mul_zero_of f (fin s m e) t h = (unlike s t, ap (λ (x : ℕ). round f (unlike s t) x (down e * 1)) (mul-zero (m * up e)) ∙ round_zero f (unlike s t) (down e * 1) (mul-pos (down_pos e) (zero-lt-suc 0)))

zero_of_mul : (f : Format) (x : Float) (t : Bool) → Finite (mul f (zero_of t) x) → Zero (mul f (zero_of t) x)
unfolding mul
zero_of_mul f nan t h = absurd h
zero_of_mul f (inf s) t h = absurd h
zero_of_mul f (fin s m e) t h = (unlike t s, ap (λ (x : ℕ). round f (unlike t s) x (1 * down e)) (zero-mul (m * up e)) ∙ round_zero f (unlike t s) (1 * down e) (mul-pos (zero-lt-suc 0) (down_pos e)))

pub mul_zero_right : (f : Format) (x z : Float) → Zero z → Finite (mul f x z) → Zero (mul f x z)
mul_zero_right f x z o h = subst (λ (y : Float). Zero (mul f x y)) (sym o.1) (mul_zero_of f x o.0 (subst (λ (y : Float). Finite (mul f x y)) o.1 h))

pub mul_zero_left : (f : Format) (z x : Float) → Zero z → Finite (mul f z x) → Zero (mul f z x)
mul_zero_left f z x o h = subst (λ (y : Float). Zero (mul f y x)) (sym o.1) (zero_of_mul f x o.0 (subst (λ (y : Float). Finite (mul f y x)) o.1 h))

not_eqb_zero : (m : ℕ) → T (not (eqb m 0)) → 0 < m
not_eqb_zero zero t = absurd t
not_eqb_zero (suc m) t = zero-lt-suc m

zero_of_div : (f : Format) (x : Float) (t : Bool) → Finite (div f (zero_of t) x) → Zero (div f (zero_of t) x)
unfolding div
zero_of_div f nan t h = absurd h
zero_of_div f (inf s) t h = (unlike t s, refl)
zero_of_div f (fin s m e) t h = go (eqb m 0) (not_eqb_zero m) h
  where
    go : (b : Bool) → (T (not b) → 0 < m) → Finite (cond b nan (round f (unlike t s) (0 * down e) (m * up e * 1))) → Zero (cond b nan (round f (unlike t s) (0 * down e) (m * up e * 1)))
    go true M h = absurd h
    go false M h = (unlike t s, ap (λ (x : ℕ). round f (unlike t s) x (m * up e * 1)) (zero-mul (down e)) ∙ round_zero f (unlike t s) (m * up e * 1) (mul-pos (mul-pos (M tt) (up_pos e)) (zero-lt-suc 0)))

pub div_zero_left : (f : Format) (z x : Float) → Zero z → Finite (div f z x) → Zero (div f z x)
div_zero_left f z x o h = subst (λ (y : Float). Zero (div f y x)) (sym o.1) (zero_of_div f x o.0 (subst (λ (y : Float). Finite (div f y x)) o.1 h))
