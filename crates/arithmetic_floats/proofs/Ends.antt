-- `to_signed 63` at a value out of the range, and the tests that tell. Assumes nothing.
use Rattle.std.proofs.Common.{◌≡◌, ℕ, ◌+◌, ◌-◌, ◌*◌, ◌/◌, ◌^◌, ◌<◌, ◌≤◌, min, Bool, true, false, not, ◌&&◌, ◌||◌, T, eqb, ltb, ◌⊎◌, pos, neg_ℤ, sym, refl, ap, inl, inr, le_trans, le_of_eq, lt_of_lt_of_le, le-add_right, le_of_lt, eq-or-lt_of_le, mul-pos, lt_of_not-le, le-div_iff_mul-le, mul-one, le-add_left, arith, eqb→eq, ltb→lt, lt→ltb, pow_pos}
use lib.Ieee.{Float, nan, inf, fin, up, down, lt, eq, le, is_nan, to_signed}
use lib.Ieee.Fits.{down_pos, eq→eqb, and_i}
use Rattle.arithmetic_floats.proofs.Order.{or_le, le_or, or_left, or_right}

-- 2 ^ 63 and -2 ^ 63
abbrev pub big : Float
big = fin false 1 (pos 63)

abbrev pub lowest : Float
lowest = fin true 1 (pos 63)

-- ---- a comparison that passed, one that failed

not_le : (a b : ℕ) → (a ≤ b → ⊥) → b < a
not_le a b h = lt_of_not-le h

not_lt : (a b : ℕ) → (a < b → ⊥) → b ≤ a
not_lt a b h = omega arith

-- the whole part, from a bound on the fraction
reaches : (w n d : ℕ) → 0 < d → w * d ≤ n → w ≤ n / d
reaches w n d D h = (le-div_iff_mul-le D).1 h

capped : (n w : ℕ) → w ≤ n → min n w ≡ w
capped n w h = omega arith

capped_pred : (n w : ℕ) → w ≤ n → min n (w - 1) ≡ w - 1
capped_pred n w h = omega arith

pub top_end : (x : Float) → T (le big x) → to_signed 63 x ≡ pos (2 ^ 63 - 1)
unfolding le lt eq to_signed
top_end nan h = absurd h
top_end (inf true) h = absurd h
top_end (inf false) h = refl
top_end (fin true m e) h = absurd (no (eqb (2 ^ 63 * down e) (m * up e * 1)) (eqb (2 ^ 63 * down e) 0) (λ t. some (2 ^ 63 * down e) (mul-pos (pow_pos 63) (down_pos e)) (eqb→eq (2 ^ 63 * down e) 0 t)) h)
  where
    some : (n : ℕ) → 0 < n → n ≡ 0 → ⊥
    some n p z = omega arith

    no : (s t : Bool) → (T t → ⊥) → T (s && t) → ⊥
    no true t f h = f h
    no false t f h = h
top_end (fin false m e) h =
    ap pos (capped_pred (m * up e / down e) (2 ^ 63) (reaches (2 ^ 63) (m * up e) (down e) (down_pos e) (le_trans (or_le (2 ^ 63 * down e) (m * up e * 1) h) (le_of_eq (mul-one (m * up e))))))

pub bottom_end : (x : Float) → T (lt x lowest) → to_signed 63 x ≡ neg_ℤ (pos (2 ^ 63))
unfolding lt to_signed
bottom_end nan h = absurd h
bottom_end (inf true) h = refl
bottom_end (inf false) h = absurd h
bottom_end (fin false m e) h = absurd h
bottom_end (fin true m e) h =
    ap (λ (n : ℕ). neg_ℤ (pos n)) (capped (m * up e / down e) (2 ^ 63) (reaches (2 ^ 63) (m * up e) (down e) (down_pos e) (le_trans (le_of_lt (ltb→lt (2 ^ 63 * down e) (m * up e * 1) h)) (le_of_eq (mul-one (m * up e))))))

pub inside_top : (x : Float) → T (not (is_nan x)) → (T (le big x) → ⊥) → T (lt x big)
unfolding le lt eq is_nan
inside_top nan n h = n
inside_top (inf true) n h = tt
inside_top (inf false) n h = absurd (h tt)
inside_top (fin true m e) n h = lt→ltb 0 (m * up e * 1 + 2 ^ 63 * down e) (lt_of_lt_of_le (mul-pos (pow_pos 63) (down_pos e)) (le-add_left (2 ^ 63 * down e) (m * up e * 1)))
inside_top (fin false m e) n h = lt→ltb (m * up e * 1) (2 ^ 63 * down e) (not_le (2 ^ 63 * down e) (m * up e * 1) (λ l. h (le_or (2 ^ 63 * down e) (m * up e * 1) l)))

pub inside_bottom : (x : Float) → T (not (is_nan x)) → (T (lt x lowest) → ⊥) → T (le lowest x)
unfolding le lt eq is_nan
inside_bottom nan n h = n
inside_bottom (inf true) n h = absurd (h tt)
inside_bottom (inf false) n h = tt
inside_bottom (fin false m e) n h =
    or_left (ltb 0 (2 ^ 63 * down e + m * up e * 1)) (eqb (2 ^ 63 * down e) (m * up e * 1) && eqb (2 ^ 63 * down e) 0) (lt→ltb 0 (2 ^ 63 * down e + m * up e * 1) (lt_of_lt_of_le (mul-pos (pow_pos 63) (down_pos e)) (le-add_right (2 ^ 63 * down e) (m * up e * 1))))
inside_bottom (fin true m e) n h = go (eq-or-lt_of_le (not_lt (2 ^ 63 * down e) (m * up e * 1) (λ l. h (lt→ltb (2 ^ 63 * down e) (m * up e * 1) l))))
  where
    go : (m * up e * 1 ≡ 2 ^ 63 * down e) ⊎ (m * up e * 1 < 2 ^ 63 * down e) → T (ltb (m * up e * 1) (2 ^ 63 * down e) || (eqb (2 ^ 63 * down e) (m * up e * 1) && true))
    go (inl x) = or_right (ltb (m * up e * 1) (2 ^ 63 * down e)) (eqb (2 ^ 63 * down e) (m * up e * 1) && true) (and_i (eqb (2 ^ 63 * down e) (m * up e * 1)) true (eq→eqb (sym x)) tt)
    go (inr x) = or_left (ltb (m * up e * 1) (2 ^ 63 * down e)) (eqb (2 ^ 63 * down e) (m * up e * 1) && true) (lt→ltb (m * up e * 1) (2 ^ 63 * down e) x)
