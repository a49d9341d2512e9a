-- The root of N, cut to its p leading digits and moved up by the test on squares, is nearer to the exact root than any other number of p digits with zeros after it.
-- N is a number of at most p digits with zeros after it, one at least. Nothing here is about floats. Assumes nothing.
use Rattle.std.proofs.Common.{◌≡◌, ℕ, zero, suc, ◌+◌, ◌-◌, ◌*◌, ◌/◌, ◌^◌, ◌<◌, ◌≤◌, ◌⊎◌, sym, refl, ap, ◌∙◌, subst, inl, inr, suc-le-suc, le_trans, le_of_eq, le_refl, lt_of_lt_of_le, le_of_suc-le-suc, lt_of_le_of_lt, le_of_lt, lt_irrefl, mul-le-mul_right, mul_assoc, suc-mul, mul_comm, add-mul, mul-le-mul, lt_of_mul-lt-mul_right, eq-or-lt_of_le, mul-lt-mul_of_pos_right, mul-pos, pow-suc, lt_of_not-le, le-div_iff_mul-le, mul-one, not-le_of_lt, div-mul-le_self, div-one, mul_left_comm, arith, pow_pos, pow_mono, pow-add, shl_lt}
use Prim.Native.Nat.{compare}
use native.Mathlib.Nat.{mul-mul-mul_comm, eq_of_mul-eq-mul_right, lt-div-mul-add}
use native.Mathlib.Decide.{dec_le}
use lib.Ieee.{size, nearest}
use lib.Ieee.Digits.{size_reaches}
use lib.Ieee.Nearest.{nearest-ge}
use Rattle.arithmetic_floats.specs.Root.{isqrt}
use Rattle.arithmetic_floats.proofs.Squares.{sq_twice}
use Rattle.arithmetic_floats.proofs.Roots.{isqrt_is}
use Rattle.arithmetic_floats.proofs.Rounding.{compare_lt, compare_gt, sq_mid}

sq_le : {a b : ℕ} → a ≤ b → a * a ≤ b * b
sq_le h = mul-le-mul h h

sq_lt : (a b : ℕ) → a < b → a * a < b * b
sq_lt a b h = lt_of_le_of_lt (mul-le-mul (le_refl a) (le_of_lt h)) (mul-lt-mul_of_pos_right h (lt_of_le_of_lt zero_le' h))
  where
    zero_le' : 0 ≤ a
    zero_le' = omega arith

sq_dbl : (c : ℕ) → (c + c) * (c + c) ≡ 4 * (c * c)
sq_dbl c = ap (λ (x : ℕ). x * x) (twice c) ∙ sq_twice c
  where
    twice : (c : ℕ) → c + c ≡ c * 2
    twice c = omega arith

both : (q u : ℕ) → q * u + suc q * u ≡ (2 * q + 1) * u
both q u = sym (add-mul q (suc q) u) ∙ ap (λ (x : ℕ). x * u) (sum q)
  where
    sum : (q : ℕ) → q + suc q ≡ 2 * q + 1
    sum q = omega arith

pub sq_lt_back : (a b : ℕ) → a * a < b * b → a < b
sq_lt_back a b h = lt_of_not-le (λ (g : b ≤ a). lt_irrefl (a * a) (lt_of_lt_of_le h (sq_le g)))

pub pow_lt_back : (i p : ℕ) → 2 ^ i < 2 ^ p → i < p
pow_lt_back i p h = lt_of_not-le (λ (g : p ≤ i). lt_irrefl (2 ^ i) (lt_of_lt_of_le h (pow_mono g)))

module _ (p N m i : ℕ) (P : 0 < p) (I : 0 < i) (is : N ≡ m * 2 ^ i) (small : m < 2 ^ p) where
  abbrev w : ℕ
  w = isqrt N

  -- how many digits are dropped, what is kept, and the number half way to the next
  abbrev pub k : ℕ
  k = size w - p

  abbrev pub q : ℕ
  q = w / 2 ^ k

  abbrev pub mid : ℕ
  mid = (2 * q + 1) * 2 ^ k

  lo : q * 2 ^ k ≤ w
  lo = div-mul-le_self w (2 ^ k)

  hi : suc w ≤ suc q * 2 ^ k
  hi = le_trans (lt-div-mul-add (pow_pos k)) (le_of_eq (sym (suc-mul q (2 ^ k))))

  -- ---- where digits were dropped, w has p + h + 1 of them

  reaches : (h : ℕ) → k ≡ suc h → 2 ^ (p + h) ≤ w
  reaches h e = size_reaches w (p + h) (longer (size w) e)
    where
      longer : (z : ℕ) → z - p ≡ suc h → p + h < z
      longer z e = omega arith

  zeros : (h : ℕ) → k ≡ suc h → h + h + 1 ≤ i
  zeros h e = room (pow_lt_back (p + h + (p + h)) (p + i) (lt_of_le_of_lt (le_trans (le_of_eq (pow-add 2 (p + h) (p + h))) (le_trans (sq_le (reaches h e)) (le_trans (isqrt_is N).0 (le_of_eq is)))) (shl_lt p i small)))
    where
      room : p + h + (p + h) < p + i → h + h + 1 ≤ i
      room l = omega arith

  split : (h : ℕ) → h + h + 1 ≤ i → N ≡ m * 2 ^ (i - (h + h + 1)) * 2 * (2 ^ h * 2 ^ h)
  split h l =
      is
      ∙ ap (λ (x : ℕ). m * 2 ^ x) (parts h l)
      ∙ ap (λ (x : ℕ). m * x) (pow-add 2 (i - (h + h + 1) + 1) (h + h) ∙ ap (λ (x : ℕ). x * 2 ^ (h + h)) (pow-add 2 (i - (h + h + 1)) 1) ∙ ap (λ (x : ℕ). 2 ^ (i - (h + h + 1)) * 2 * x) (pow-add 2 h h))
      ∙ sym (mul_assoc m (2 ^ (i - (h + h + 1)) * 2) (2 ^ h * 2 ^ h))
      ∙ ap (λ (x : ℕ). x * (2 ^ h * 2 ^ h)) (sym (mul_assoc m (2 ^ (i - (h + h + 1))) 2))
    where
      parts : (h : ℕ) → h + h + 1 ≤ i → i ≡ i - (h + h + 1) + 1 + (h + h)
      parts h l = omega arith

  -- ---- the root is never half way

  odd_even : (q n a : ℕ) → a ≡ (2 * q + 1) * (2 * q + 1) → a ≡ 2 * n → ⊥
  odd_even q n a x y = omega (arith, sq_mid q)

  no_tie : 4 * N ≡ mid * mid → ⊥
  no_tie e = go k refl
    where
      at : (j : ℕ) → k ≡ j → 4 * N ≡ (2 * q + 1) * (2 * q + 1) * (2 ^ j * 2 ^ j)
      at j x = e ∙ mul-mul-mul_comm (2 * q + 1) (2 ^ k) (2 * q + 1) (2 ^ k) ∙ ap (λ (y : ℕ). (2 * q + 1) * (2 * q + 1) * (2 ^ y * 2 ^ y)) x

      four : (N : ℕ) → 4 * N ≡ 2 * (2 * N)
      four N = omega arith

      go : (j : ℕ) → k ≡ j → ⊥
      go zero x = odd_even q (2 * N) (4 * N) (at zero x ∙ mul-one ((2 * q + 1) * (2 * q + 1))) (four N)
      go (suc h) x =
          let u = 2 ^ h * 2 ^ h in
          let s = m * 2 ^ (i - (h + h + 1)) in
          let a : 4 * (s * 2 * u) ≡ 4 * ((2 * q + 1) * (2 * q + 1) * u) =
          ap (λ (y : ℕ). 4 * y) (sym (split h (zeros h x))) ∙ at (suc h) x ∙ ap (λ (y : ℕ). (2 * q + 1) * (2 * q + 1) * y) (ap (λ (y : ℕ). y * y) (pow-suc 2 h) ∙ sq_twice (2 ^ h)) ∙ mul_left_comm ((2 * q + 1) * (2 * q + 1)) 4 u in
          let b : s * 2 * u ≡ (2 * q + 1) * (2 * q + 1) * u = quarter (s * 2 * u) ((2 * q + 1) * (2 * q + 1) * u) a in
          odd_even q s (s * 2) (eq_of_mul-eq-mul_right u (mul-pos (pow_pos h) (pow_pos h)) (s * 2) ((2 * q + 1) * (2 * q + 1)) b) (mul_comm s 2)
        where
          quarter : (a b : ℕ) → 4 * a ≡ 4 * b → a ≡ b
          quarter a b e = omega arith

  abbrev pub rounded : ℕ
  rounded = nearest q (compare (4 * N) (mid * mid))

  abbrev Rounds : Type 0
  Rounds = ((4 * N < mid * mid) × (rounded ≡ q)) ⊎ ((mid * mid < 4 * N) × (rounded ≡ suc q))

  rounds : Rounds
  rounds = go (dec_le (4 * N) (mid * mid))
    where
      up : mid * mid < 4 * N → Rounds
      up l = inr (l, ap (nearest q) (compare_gt (4 * N) (mid * mid) l))

      down : (4 * N ≡ mid * mid) ⊎ (4 * N < mid * mid) → Rounds
      down (inl e) = absurd (no_tie e)
      down (inr l) = inl (l, ap (nearest q) (compare_lt (4 * N) (mid * mid) l))

      go : Dec (4 * N ≤ mid * mid) → Rounds
      go (yes l) = down (eq-or-lt_of_le l)
      go (no g) = up (lt_of_not-le g)

  -- ---- every number of p digits with zeros after it is a multiple of 2 ^ k, or is below q * 2 ^ k

  abbrev pub Spaced : ℕ → Type 0
  Spaced t = ((a : ℕ) × (t ≡ a * 2 ^ k)) ⊎ (t < 2 ^ (p - 1 + k))

  abbrev Placed : ℕ → Type 0
  Placed t = ((a : ℕ) × (t ≡ a * 2 ^ k)) ⊎ (t < q * 2 ^ k)

  kept : (h : ℕ) → k ≡ suc h → 2 ^ (p - 1) ≤ q
  kept h e =
      (le-div_iff_mul-le (pow_pos k)).1
      (le_trans (le_of_eq (sym (pow-add 2 (p - 1) k) ∙ ap (λ (x : ℕ). 2 ^ (p - 1 + x)) e ∙ ap (λ (x : ℕ). 2 ^ x) (same p P))) (reaches h e))
    where
      same : (p : ℕ) → 0 < p → p - 1 + suc h ≡ p + h
      same p P = omega arith

  placed : (t : ℕ) → Spaced t → Placed t
  placed t (inl x) = inl x
  placed t (inr x) = go k refl
    where
      go : (j : ℕ) → k ≡ j → Placed t
      go zero e = inl (t, sym (ap (λ (y : ℕ). t * 2 ^ y) e ∙ mul-one t))
      go (suc h) e = inr (lt_of_lt_of_le x (le_trans (le_of_eq (pow-add 2 (p - 1) k)) (mul-le-mul_right (2 ^ k) (kept h e))))

  next_above : (t : ℕ) → Placed t → q * 2 ^ k < t → suc q * 2 ^ k ≤ t
  next_above t (inl x) l = le_trans (mul-le-mul_right (2 ^ k) (lt_of_mul-lt-mul_right (2 ^ k) (subst (λ (y : ℕ). q * 2 ^ k < y) x.1 l))) (le_of_eq (sym x.1))
  next_above t (inr x) l = absurd (not-le_of_lt x (le_of_lt l))

  next_below : (t : ℕ) → Placed t → t < suc q * 2 ^ k → t ≤ q * 2 ^ k
  next_below t (inl x) l = le_trans (le_of_eq x.1) (mul-le-mul_right (2 ^ k) (le_of_suc-le-suc (lt_of_mul-lt-mul_right (2 ^ k) (subst (λ (y : ℕ). y < suc q * 2 ^ k) x.1 l))))
  next_below t (inr x) l = le_of_lt x

  -- ---- the result

  down_le : 4 * (q * 2 ^ k * (q * 2 ^ k)) ≤ 4 * N
  down_le = quadruple (le_trans (sq_le lo) (isqrt_is N).0)
    where
      quadruple : {a b : ℕ} → a ≤ b → 4 * a ≤ 4 * b
      quadruple h = omega arith

  up_lt : 4 * N < 4 * (suc q * 2 ^ k * (suc q * 2 ^ k))
  up_lt = quadruple (lt_of_lt_of_le (isqrt_is N).1 (sq_le hi))
    where
      quadruple : {a b : ℕ} → a < b → 4 * a < 4 * b
      quadruple h = omega arith

  pub rounded_pos : 0 < N → 0 < rounded
  rounded_pos n = lt_of_lt_of_le (go k refl) (nearest-ge q (compare (4 * N) (mid * mid)))
    where
      w_pos : 0 < w
      w_pos = lt_of_not-le (λ (g : w ≤ 0). not-le_of_lt (lt_of_lt_of_le (isqrt_is N).1 (sq_le (suc-le-suc g))) n)

      go : (j : ℕ) → k ≡ j → 0 < q
      go zero e = subst (λ (y : ℕ). 0 < w / 2 ^ y) (sym e) (subst (λ (y : ℕ). 0 < y) (sym (div-one w)) w_pos)
      go (suc h) e = lt_of_lt_of_le (pow_pos (p - 1)) (kept h e)

  module _ (t : ℕ) (T : Spaced t) where
    pub over : t < rounded * 2 ^ k → (t + rounded * 2 ^ k) * (t + rounded * 2 ^ k) < 4 * N
    over l = go rounds
      where
        add : {a b : ℕ} (c : ℕ) → a < b → a + c < b + c
        add c h = omega arith

        add_le : {a b : ℕ} (c : ℕ) → a ≤ b → a + c ≤ b + c
        add_le c h = omega arith

        go : ((4 * N < mid * mid) × (rounded ≡ q)) ⊎ ((mid * mid < 4 * N) × (rounded ≡ suc q)) → (t + rounded * 2 ^ k) * (t + rounded * 2 ^ k) < 4 * N
        go (inl x) =
            subst (λ (c : ℕ). (t + c * 2 ^ k) * (t + c * 2 ^ k) < 4 * N) (sym x.1)
            (lt_of_lt_of_le (sq_lt (t + q * 2 ^ k) (q * 2 ^ k + q * 2 ^ k) (add (q * 2 ^ k) (subst (λ (c : ℕ). t < c * 2 ^ k) x.1 l))) (le_trans (le_of_eq (sq_dbl (q * 2 ^ k))) down_le))
        go (inr x) =
            subst (λ (c : ℕ). (t + c * 2 ^ k) * (t + c * 2 ^ k) < 4 * N) (sym x.1)
            (lt_of_le_of_lt (sq_le (le_trans (add_le (suc q * 2 ^ k) (next_below t (placed t T) (subst (λ (c : ℕ). t < c * 2 ^ k) x.1 l))) (le_of_eq (both q (2 ^ k))))) x.0)

    pub under : rounded * 2 ^ k < t → 4 * N < (t + rounded * 2 ^ k) * (t + rounded * 2 ^ k)
    under l = go rounds
      where
        add_le : {a b : ℕ} (c : ℕ) → a ≤ b → c + a ≤ b + c
        add_le c h = omega arith

        add_self : {a b : ℕ} → a < b → a + a ≤ b + a
        add_self h = omega arith

        go : ((4 * N < mid * mid) × (rounded ≡ q)) ⊎ ((mid * mid < 4 * N) × (rounded ≡ suc q)) → 4 * N < (t + rounded * 2 ^ k) * (t + rounded * 2 ^ k)
        go (inl x) =
            subst (λ (c : ℕ). 4 * N < (t + c * 2 ^ k) * (t + c * 2 ^ k)) (sym x.1)
            (lt_of_lt_of_le x.0 (sq_le (le_trans (le_of_eq (sym (both q (2 ^ k)))) (add_le (q * 2 ^ k) (next_above t (placed t T) (subst (λ (c : ℕ). c * 2 ^ k < t) x.1 l))))))
        go (inr x) =
            subst (λ (c : ℕ). 4 * N < (t + c * 2 ^ k) * (t + c * 2 ^ k)) (sym x.1)
            (lt_of_lt_of_le up_lt (le_trans (le_of_eq (sym (sq_dbl (suc q * 2 ^ k)))) (sq_le (add_self (subst (λ (c : ℕ). c * 2 ^ k < t) x.1 l)))))
