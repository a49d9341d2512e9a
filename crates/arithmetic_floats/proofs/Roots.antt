-- The whole part of a root: `isqrt` gives it, there is one, and it is cut where its radicand is cut. Assumes nothing.
use Rattle.std.proofs.Common.{◌≡◌, ℕ, zero, suc, ◌*◌, ◌/◌, ◌^◌, ◌<◌, ◌≤◌, Bool, true, false, cond, not, T, leb, sym, ap, ◌∙◌, subst, subst₂, le_trans, le_of_eq, lt_of_lt_of_le, le_of_suc-le-suc, lt_of_le_of_lt, lt_irrefl, zero-lt-suc, suc-mul, mul_comm, div-lt_iff_lt-mul, mul-le-mul, le_antisymm, lt_of_mul-lt-mul_right, mul-pos, pow-suc, lt_of_not-le, div-mul-le_self, le_of_mul-le-mul_right, arith, leb→le}
use native.Mathlib.Nat.{mul-mul-mul_comm, lt-div-mul-add}
use lib.Dec.{nleb→lt}
use lib.Ieee.{size}
use lib.Ieee.Digits.{size-lt}
use Rattle.arithmetic_floats.specs.Root.{IsRoot, next_digit, root_digits, isqrt}
use Rattle.arithmetic_floats.proofs.Squares.{sq_suc, sq_twice}

pub sq_le_back : (a b : ℕ) → a * a < suc b * suc b → a ≤ b
sq_le_back a b h = le_of_suc-le-suc (lt_of_not-le (λ (g : suc b ≤ a). lt_irrefl (a * a) (lt_of_lt_of_le h (mul-le-mul g g))))

pub root_unique : (n a b : ℕ) → IsRoot n a → IsRoot n b → a ≡ b
root_unique n a b x y = le_antisymm (sq_le_back a b (lt_of_le_of_lt x.0 y.1)) (sq_le_back b a (lt_of_le_of_lt y.0 x.1))

-- ---- `isqrt`

first_digit : (n : ℕ) → n < 1 → IsRoot n 0
first_digit n h = omega arith

quarter_lt : (d n : ℕ) → n < 4 ^ suc d → n / 4 < 4 ^ d
quarter_lt d n h = (div-lt_iff_lt-mul (zero-lt-suc 3)).1 (subst (λ (x : ℕ). n < x) (pow-suc 4 d) h)

twice_sq : (r : ℕ) → 2 * r * (2 * r) ≡ 4 * (r * r)
twice_sq r = ap (λ (x : ℕ). x * x) (mul_comm 2 r) ∙ sq_twice r

next_is : (n r : ℕ) → IsRoot (n / 4) r → IsRoot n (next_digit n r)
next_is n r h = go (leb (suc (2 * r) * suc (2 * r)) n) (leb→le (suc (2 * r) * suc (2 * r)) n) (nleb→lt (suc (2 * r) * suc (2 * r)) n)
  where
    under : n < suc (suc (2 * r)) * suc (suc (2 * r))
    under = omega (arith, h.1, sq_suc r, sq_suc (suc (2 * r)), sq_suc (2 * r), twice_sq r)

    over : 2 * r * (2 * r) ≤ n
    over = omega (arith, h.0, twice_sq r)

    go : (b : Bool) → (T b → suc (2 * r) * suc (2 * r) ≤ n) → (T (not b) → n < suc (2 * r) * suc (2 * r)) → IsRoot n (cond b (suc (2 * r)) (2 * r))
    go true x y = (x tt, under)
    go false x y = (over, y tt)

digits_are : (d n : ℕ) → n < 4 ^ d → IsRoot n (root_digits d n)
unfolding root_digits
digits_are zero n h = first_digit n h
digits_are (suc d) n h = next_is n (root_digits d (n / 4)) (digits_are d (n / 4) (quarter_lt d n h))

two_le_four : (d : ℕ) → 2 ^ d ≤ 4 ^ d
two_le_four zero = omega arith
two_le_four (suc d) = subst₂ (λ (x y : ℕ). x ≤ y) (sym (pow-suc 2 d)) (sym (pow-suc 4 d)) (mul-le-mul (two_le_four d) (omega arith))

pub isqrt_is : (n : ℕ) → IsRoot n (isqrt n)
unfolding isqrt
isqrt_is n = digits_are (size n) n (lt_of_lt_of_le (size-lt n) (two_le_four (size n)))

-- ---- the root of n * (p * p), cut to multiples of p, is the root of n

pub root_cut : (n p w : ℕ) → 0 < p → IsRoot (n * (p * p)) w → IsRoot n (w / p)
root_cut n p w h x =
    let v = w / p in
    let lo : v * p ≤ w = div-mul-le_self w p in
    let hi : suc w ≤ suc v * p = le_trans (lt-div-mul-add h) (le_of_eq (sym (suc-mul v p))) in (
      le_of_mul-le-mul_right (le_trans (le_of_eq (mul-mul-mul_comm v v p p)) (le_trans (mul-le-mul lo lo) x.0)) (mul-pos h h),
      lt_of_mul-lt-mul_right (p * p) (lt_of_lt_of_le x.1 (le_trans (mul-le-mul hi hi) (le_of_eq (mul-mul-mul_comm (suc v) p (suc v) p)))),
    )
