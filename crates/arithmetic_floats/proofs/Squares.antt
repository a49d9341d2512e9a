-- Squares of whole numbers: their orders, and one more binary digit of a root. Assumes nothing.
use Rattle.std.proofs.Common.{◌≡◌, ℕ, suc, ◌+◌, ◌-◌, ◌*◌, ◌/◌, ◌%◌, ◌^◌, ◌<◌, ◌≤◌, sym, ap, ◌∙◌, mul_comm, add-mul, pow-suc, mul-add, mul_left_comm, add-one, arith}
use native.Mathlib.Nat.{mul-mul-mul_comm}

pub sq_add_one : (a : ℕ) → (a + 1) * (a + 1) ≡ a * a + 2 * a + 1
sq_add_one a = omega (arith, mul-add (a + 1) a 1, add-mul a 1 a)

pub sq_suc : (a : ℕ) → suc a * suc a ≡ a * a + 2 * a + 1
sq_suc a = ap (λ (x : ℕ). x * x) (sym (add-one a)) ∙ sq_add_one a

pub sq_twice : (a : ℕ) → a * 2 * (a * 2) ≡ 4 * (a * a)
sq_twice a = mul-mul-mul_comm a 2 a 2 ∙ mul_comm (a * a) 4

pub sq_odd : (a : ℕ) → (a * 2 + 1) * (a * 2 + 1) ≡ 4 * (a * a) + 4 * a + 1
sq_odd a = omega (arith, sq_add_one (a * 2), sq_twice a)

-- ---- one more digit of the root of m * 4 ^ i / 2 ^ 64

pow_two : (i : ℕ) → 2 ^ (i + 1) ≡ 2 * 2 ^ i
pow_two i = rw (add-one i, pow-suc 2 i) (mul_comm (2 ^ i) 2)

pow_four : (m i : ℕ) → m * 4 ^ (i + 1) ≡ 4 * (m * 4 ^ i)
pow_four m i = rw (add-one i, pow-suc 4 i) (simp (mul_comm, mul_left_comm))

-- the two digits that leave a word of 64 at its top
top_two : (n : ℕ) → n * 4 % 2 ^ 64 + n / 2 ^ 62 * 2 ^ 64 ≡ n * 4
top_two n = omega arith

-- After i digits: `rest` is what was not read of m * 4 ^ i, and root is the whole part of the root of what was, with rem over.
abbrev pub Reached : ℕ → ℕ → ℕ → ℕ → ℕ → Type 0
Reached m i rest root rem = (root < 2 ^ i) × (rem ≤ 2 * root) × (rest < 2 ^ 64) × ((root * root + rem) * 2 ^ 64 + rest ≡ m * 4 ^ i)

module _ (m i rest root rem : ℕ) (h : Reached m i rest root rem) where
  pub digit_one : root * 4 + 1 ≤ rem * 4 + rest / 2 ^ 62 → Reached m (i + 1) (rest * 4 % 2 ^ 64) (root * 2 + 1) (rem * 4 + rest / 2 ^ 62 - (root * 4 + 1))
  digit_one l = omega (arith, top_two rest, pow_two i, pow_four m i, sq_odd root)

  pub digit_zero : rem * 4 + rest / 2 ^ 62 < root * 4 + 1 → Reached m (i + 1) (rest * 4 % 2 ^ 64) (root * 2) (rem * 4 + rest / 2 ^ 62)
  digit_zero l = omega (arith, top_two rest, pow_two i, pow_four m i, sq_twice root)

  -- the digits so far are the whole part of the root
  pub is_whole_part : (root * root * 2 ^ 64 ≤ m * 4 ^ i) × (m * 4 ^ i < (root + 1) * (root + 1) * 2 ^ 64)
  is_whole_part = omega (arith, sq_add_one root)
