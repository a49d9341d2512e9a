-- A finite value that the format holds, counted in the format's smallest values: a number of at most `prec` digits with zeros after it, below `overflow`. Assumes nothing.
use Rattle.std.proofs.Common.{◌≡◌, ℕ, zero, suc, ◌+◌, ◌-◌, ◌*◌, ◌/◌, ◌^◌, ◌<◌, ◌≤◌, Bool, true, false, T, ◌⊎◌, ℤ, pos, negsuc, sym, refl, ap, ◌∙◌, subst, inl, inr, lt_of_lt_of_le, le_of_suc-le-suc, lt_irrefl, mul_assoc, mul_comm, lt_of_mul-lt-mul_right, mul-lt-mul_of_pos_right, lt_of_not-le, zero-mul, mul-one, mul_right_comm, mul-div_cancel, arith, pow_pos, pow_mono, pow-add, shl_lt}
use native.Mathlib.Decide.{dec_le}
use lib.Pow.{pow-lt}
use lib.Ieee.{Float, nan, inf, fin, Format, prec, emax, low, up, down, fits}
use lib.Ieee.Digits.{back}
use lib.Ieee.Exact.{HasValue}
use lib.Ieee.Scale.{overflow}
use lib.Ieee.Positive.{positive}
use lib.Ieee.Fits.{down_pos}
use Rattle.arithmetic_floats.specs.Root.{count}
use Rattle.arithmetic_floats.proofs.Zero.{fits_parts}

pub count_of : (f : Format) (x : Float) (s : Bool) (a : ℕ) → HasValue x s a (2 ^ low f) → count f x ≡ a
count_of f nan s a h = absurd h
count_of f (inf t) s a h = absurd h
count_of f (fin t m e) s a h = ap (λ (x : ℕ). x / down e) h.1 ∙ mul-div_cancel a (down_pos e)

pow_le_back : (a l : ℕ) → 2 ^ a ≤ 2 ^ l → a ≤ l
pow_le_back a l h = le_of_suc-le-suc (lt_of_not-le (λ (g : suc l ≤ a). lt_irrefl (2 ^ l) (lt_of_lt_of_le (pow-lt g) h)))

-- m * 2 ^ e is m * 2 ^ j smallest values, for one j
place : (l : ℕ) (e : ℤ) → down e ≤ 2 ^ l → (j : ℕ) × ((m : ℕ) → m * up e * 2 ^ l ≡ m * 2 ^ j * down e)
place l (pos a) h = (a + l, λ m. mul_assoc m (2 ^ a) (2 ^ l) ∙ ap (λ (x : ℕ). m * x) (sym (pow-add 2 a l)) ∙ sym (mul-one (m * 2 ^ (a + l))))
place l (negsuc a) h =
    let le : suc a ≤ l = pow_le_back (suc a) l h in (
      l - suc a,
      λ m.
          ap (λ (x : ℕ). x * 2 ^ l) (mul-one m)
          ∙ ap (λ (x : ℕ). m * x) (ap (λ (x : ℕ). 2 ^ x) (sym (back l (suc a) le)) ∙ pow-add 2 (l - suc a) (suc a))
          ∙ sym (mul_assoc m (2 ^ (l - suc a)) (2 ^ suc a)),
    )

-- the digits m and the zeros j of a count
pub record Counted (f : Format) (n : ℕ) : Type 0 where
  pub m : ℕ
  pub j : ℕ
  pub is : n ≡ m * 2 ^ j
  pub m_lt : m < 2 ^ prec f
  pub n_lt : n < overflow f

nothing : (f : Format) (n : ℕ) → n ≡ 0 → Counted f n
nothing f n e = record { m = 0; j = 0; is = e; m_lt = pow_pos (prec f); n_lt = subst (λ (x : ℕ). x < overflow f) (sym e) (pow_pos (low f + suc (emax f))) }

something : (f : Format) (m : ℕ) (e : ℤ) → m < 2 ^ prec f → down e ≤ 2 ^ low f → m * up e < 2 ^ suc (emax f) * down e → Counted f (m * up e * 2 ^ low f / down e)
something f m e a b c =
    let p = place (low f) e b in
    let n = m * up e * 2 ^ low f / down e in
    let is : n ≡ m * 2 ^ p.0 = ap (λ (x : ℕ). x / down e) (p.1 m) ∙ mul-div_cancel (m * 2 ^ p.0) (down_pos e) in
    let whole : n * down e ≡ m * up e * 2 ^ low f = ap (λ (x : ℕ). x * down e) is ∙ sym (p.1 m) in
    let lt : n * down e < overflow f * down e =
    subst (λ (x : ℕ). x < overflow f * down e) (sym whole)
    (subst (λ (x : ℕ). m * up e * 2 ^ low f < x) (mul_right_comm (2 ^ suc (emax f)) (down e) (2 ^ low f) ∙ ap (λ (x : ℕ). x * down e) (mul_comm (2 ^ suc (emax f)) (2 ^ low f) ∙ sym (pow-add 2 (low f) (suc (emax f)))))
    (mul-lt-mul_of_pos_right c (pow_pos (low f)))) in
    record { m = m; j = p.0; is = is; m_lt = a; n_lt = lt_of_mul-lt-mul_right (down e) lt }

pub counted : (f : Format) (x : Float) → T (fits f x) → Counted f (count f x)
counted f nan h = nothing f 0 refl
counted f (inf s) h = nothing f 0 refl
counted f (fin s zero e) h = nothing f (0 * up e * 2 ^ low f / down e) (ap (λ (x : ℕ). x * 2 ^ low f / down e) (zero-mul (up e)) ∙ ap (λ (x : ℕ). x / down e) (zero-mul (2 ^ low f)) ∙ native.Mathlib.Nat.zero-div (down e))
counted f (fin s (suc m) e) h = let p = fits_parts f s (suc m) e h in something f (suc m) e p.few p.fine p.under

-- ---- a value of `prec` digits above 2 ^ k smallest values is a multiple of 2 ^ k of them

pub spaced : (p n m j k : ℕ) → 0 < p → n ≡ m * 2 ^ j → m < 2 ^ p → ((i : ℕ) × (n ≡ i * 2 ^ k)) ⊎ (n < 2 ^ (p - 1 + k))
spaced p n m j k P e h = go (dec_le k j)
  where
    over : (k ≤ j → ⊥) → p + j ≤ p - 1 + k
    over g = omega arith

    go : Dec (k ≤ j) → ((i : ℕ) × (n ≡ i * 2 ^ k)) ⊎ (n < 2 ^ (p - 1 + k))
    go (yes l) = inl (m * 2 ^ (j - k), e ∙ ap (λ (x : ℕ). m * 2 ^ x) (sym (back j k l)) ∙ ap (λ (x : ℕ). m * x) (pow-add 2 (j - k) k) ∙ sym (mul_assoc m (2 ^ (j - k)) (2 ^ k)))
    go (no g) = inr (subst (λ (x : ℕ). x < 2 ^ (p - 1 + k)) (sym e) (lt_of_lt_of_le (shl_lt p j h) (pow_mono (over g))))

-- ---- nothing is lost in counting

exact_at : (f : Format) (m : ℕ) (e : ℤ) → down e ≤ 2 ^ low f → m * up e * 2 ^ low f / down e * down e ≡ m * up e * 2 ^ low f
exact_at f m e b =
    let p = place (low f) e b in
    ap (λ (x : ℕ). x / down e * down e) (p.1 m) ∙ ap (λ (x : ℕ). x * down e) (mul-div_cancel (m * 2 ^ p.0) (down_pos e)) ∙ sym (p.1 m)

pub count_value : (f : Format) (x : Float) → T (fits f x) → T (positive x) → HasValue x false (count f x) (2 ^ low f)
count_value f nan h p = absurd p
count_value f (inf s) h p = absurd p
count_value f (fin true m e) h p = absurd p
count_value f (fin false zero e) h p = absurd p
count_value f (fin false (suc m) e) h p =
    (refl, sym (exact_at f (suc m) e (fits_parts f false (suc m) e h).fine))
