-- How `sqrt_units` rounds, read off the root of an even number that has one digit more than the format keeps. That last digit alone decides:
-- the square of an odd number is odd, so the exact root is never half way between two values of the format. Assumes nothing.
use Rattle.std.proofs.Common.{◌≡◌, ℕ, zero, suc, ◌+◌, ◌-◌, ◌*◌, ◌/◌, ◌%◌, ◌^◌, ◌<◌, ◌≤◌, false, not, T, ◌⊎◌, sym, refl, ap, ◌∙◌, subst, ap₂, inl, inr, le_trans, le_of_eq, lt_of_lt_of_le, lt_irrefl, mul-le-mul_right, suc-mul, mul_comm, le_antisymm, suc-add, mul-lt-mul_of_pos_right, mul-pos, pow-suc, lt_of_not-le, div-mul-le_self, mul_left_comm, arith, eqb→eq, leb→le, pow_pos, pow_mono, pow-add}
use Prim.Native.Nat.{compare, Ordering}
use native.Mathlib.Nat.{mul-mul-mul_comm, lt-div-mul-add, div-div-eq-div-mul}
use lib.Dec.{is_le, compare_is_eq, nleb→lt}
use lib.Ieee.{Format, prec, low, size, nearest, units}
use lib.Ieee.Digits.{size-lt, size-le}
use Rattle.arithmetic_floats.specs.Root.{IsRoot, isqrt, sqrt_units}
use Rattle.arithmetic_floats.proofs.Squares.{sq_odd, sq_twice}
use Rattle.arithmetic_floats.proofs.Roots.{isqrt_is, root_unique, root_cut}

-- ---- `compare`, from an order

pub compare_lt : (a b : ℕ) → a < b → compare a b ≡ Ordering.lt
compare_lt a b h = go (compare a b) (nleb→lt a b) (eqb→eq a b)
  where
    same : a ≡ b → ⊥
    same e = omega arith

    after : b < a → ⊥
    after g = omega arith

    go : (o : Ordering) → (T (not (is_le o)) → b < a) → (T (compare_is_eq o) → a ≡ b) → o ≡ Ordering.lt
    go Ordering.lt x y = refl
    go Ordering.eq x y = absurd (same (y tt))
    go Ordering.gt x y = absurd (after (x tt))

pub compare_gt : (a b : ℕ) → b < a → compare a b ≡ Ordering.gt
compare_gt a b h = go (compare a b) (leb→le a b)
  where
    before : a ≤ b → ⊥
    before g = omega arith

    go : (o : Ordering) → (T (is_le o) → a ≤ b) → o ≡ Ordering.gt
    go Ordering.lt x = absurd (before (x tt))
    go Ordering.eq x = absurd (before (x tt))
    go Ordering.gt x = refl

-- ---- a number's length

pub size_is : (n j : ℕ) → 2 ^ j ≤ n → n < 2 ^ suc j → size n ≡ suc j
size_is n j lo hi =
    le_antisymm (size-le n (suc j) hi) (lt_of_not-le (λ (g : size n ≤ j). lt_irrefl n (lt_of_lt_of_le (size-lt n) (le_trans (pow_mono g) lo))))

-- ---- the rounding of the root of an even s from its whole part r, whose last digit is the first that is dropped

pub sq_mid : (q : ℕ) → (2 * q + 1) * (2 * q + 1) ≡ 4 * (q * q) + 4 * q + 1
sq_mid q = ap (λ (x : ℕ). (x + 1) * (x + 1)) (mul_comm 2 q) ∙ sq_odd q

-- never half way
no_tie : (s q : ℕ) → s % 2 ≡ 0 → (2 * q + 1) * (2 * q + 1) ≤ s → (2 * q + 1) * (2 * q + 1) < s
no_tie s q e h = omega (arith, sq_mid q)

-- the square that is half way between those of r / 2 and r / 2 + 1, at twice the size
abbrev mid : ℕ → ℕ
mid r = (2 * (r / 2) + 1) * (2 * (r / 2) + 1)

either : (s r : ℕ) → IsRoot s r → s % 2 ≡ 0 → ((s < mid r) × ((r + 1) / 2 ≡ r / 2)) ⊎ ((mid r < s) × ((r + 1) / 2 ≡ suc (r / 2)))
either s r h e = go (r % 2) refl
  where
    down : r % 2 ≡ 0 → suc r ≡ 2 * (r / 2) + 1
    down z = omega arith

    up : (b : ℕ) → r % 2 ≡ suc b → r ≡ 2 * (r / 2) + 1
    up b z = omega arith

    go : (b : ℕ) → r % 2 ≡ b → ((s < mid r) × ((r + 1) / 2 ≡ r / 2)) ⊎ ((mid r < s) × ((r + 1) / 2 ≡ suc (r / 2)))
    go zero z = inl (subst (λ (x : ℕ). s < x * x) (down z) h.1, omega arith)
    go (suc b) z = inr (no_tie s (r / 2) e (subst (λ (x : ℕ). x * x ≤ s) (up b z) h.0), omega arith)

pub nearest_root : (s r u : ℕ) → 0 < u → IsRoot s r → s % 2 ≡ 0 → nearest (r / 2) (compare (s * u) (mid r * u)) ≡ (r + 1) / 2
nearest_root s r u p h e = go (either s r h e)
  where
    go : ((s < mid r) × ((r + 1) / 2 ≡ r / 2)) ⊎ ((mid r < s) × ((r + 1) / 2 ≡ suc (r / 2))) → nearest (r / 2) (compare (s * u) (mid r * u)) ≡ (r + 1) / 2
    go (inl x) = ap (nearest (r / 2)) (compare_lt (s * u) (mid r * u) (mul-lt-mul_of_pos_right x.0 p)) ∙ sym x.1
    go (inr x) = ap (nearest (r / 2)) (compare_gt (s * u) (mid r * u) (mul-lt-mul_of_pos_right x.0 p)) ∙ sym x.1

-- ---- `sqrt_units`

at : (f : Format) (n w k : ℕ) → isqrt (n * 2 ^ low f) ≡ w → size w - prec f ≡ k
    → sqrt_units f n ≡ units f false (nearest (w / 2 ^ k) (compare (4 * (n * 2 ^ low f)) ((2 * (w / 2 ^ k) + 1) * 2 ^ k * ((2 * (w / 2 ^ k) + 1) * 2 ^ k)))) k
unfolding sqrt_units
at f n w k e d =
    ap (λ (w : ℕ). units f false (nearest (w / 2 ^ (size w - prec f)) (compare (4 * (n * 2 ^ low f)) ((2 * (w / 2 ^ (size w - prec f)) + 1) * 2 ^ (size w - prec f) * ((2 * (w / 2 ^ (size w - prec f)) + 1) * 2 ^ (size w - prec f))))) (size w - prec f)) e
    ∙ ap (λ (k : ℕ). units f false (nearest (w / 2 ^ k) (compare (4 * (n * 2 ^ low f)) ((2 * (w / 2 ^ k) + 1) * 2 ^ k * ((2 * (w / 2 ^ k) + 1) * 2 ^ k)))) k) d

module _ (f : Format) (n s h r : ℕ) (e : n * 2 ^ low f ≡ s * (2 ^ h * 2 ^ h)) (R : IsRoot s r) (lo : 2 ^ prec f ≤ r) (hi : r < 2 ^ suc (prec f)) where
  w : ℕ
  w = isqrt (n * 2 ^ low f)

  cut : w / 2 ^ h ≡ r
  unfolding w
  cut = root_unique s (isqrt (n * 2 ^ low f) / 2 ^ h) r (root_cut s (2 ^ h) (isqrt (n * 2 ^ low f)) (pow_pos h) (subst (λ (x : ℕ). IsRoot x (isqrt (n * 2 ^ low f))) e (isqrt_is (n * 2 ^ low f)))) R

  w_ge : 2 ^ (prec f + h) ≤ w
  w_ge = le_trans (le_of_eq (pow-add 2 (prec f) h)) (le_trans (mul-le-mul_right (2 ^ h) (le_trans lo (le_of_eq (sym cut)))) (div-mul-le_self w (2 ^ h)))

  w_lt : w < 2 ^ suc (prec f + h)
  w_lt =
      lt_of_lt_of_le (lt-div-mul-add (pow_pos h))
      (le_trans (le_of_eq (sym (suc-mul (w / 2 ^ h) (2 ^ h))))
      (le_trans (mul-le-mul_right (2 ^ h) (subst (λ (x : ℕ). suc x ≤ 2 ^ suc (prec f)) (sym cut) hi)) (le_of_eq (sym (pow-add 2 (suc (prec f)) h) ∙ ap (λ (x : ℕ). 2 ^ x) (suc-add (prec f) h)))))

  dropped : size w - prec f ≡ suc h
  dropped = omega (arith, size_is w (prec f + h) w_ge w_lt)

  kept : w / 2 ^ suc h ≡ r / 2
  kept = ap (λ (x : ℕ). w / x) (pow-suc 2 h) ∙ sym (div-div-eq-div-mul w (2 ^ h) 2) ∙ ap (λ (x : ℕ). x / 2) cut

  pub root_rounds : s % 2 ≡ 0 → sqrt_units f n ≡ units f false ((r + 1) / 2) (suc h)
  unfolding w
  root_rounds even =
      let u = 2 ^ suc h * 2 ^ suc h in
      let four : 4 * (n * 2 ^ low f) ≡ s * u = ap (λ (x : ℕ). 4 * x) e ∙ mul_left_comm 4 s (2 ^ h * 2 ^ h) ∙ ap (λ (x : ℕ). s * x) (sym (ap (λ (x : ℕ). x * x) (pow-suc 2 h) ∙ sq_twice (2 ^ h))) in
      at f n (isqrt (n * 2 ^ low f)) (suc h) refl dropped
      ∙ ap (λ (q : ℕ). units f false (nearest q (compare (4 * (n * 2 ^ low f)) ((2 * q + 1) * 2 ^ suc h * ((2 * q + 1) * 2 ^ suc h)))) (suc h)) kept
      ∙ ap₂ (λ (x y : ℕ). units f false (nearest (r / 2) (compare x y)) (suc h)) four (mul-mul-mul_comm (2 * (r / 2) + 1) (2 ^ suc h) (2 * (r / 2) + 1) (2 ^ suc h))
      ∙ ap (λ (q : ℕ). units f false q (suc h)) (nearest_root s r u (mul-pos (pow_pos (suc h)) (pow_pos (suc h))) R even)
