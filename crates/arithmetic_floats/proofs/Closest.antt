-- `sqrt_of` gives the value nearest to the exact root, over the format, and no other value is as near. Assumes nothing.
use Rattle.std.proofs.Common.{◌≡◌, ℕ, zero, suc, ◌+◌, ◌-◌, ◌*◌, ◌/◌, ◌^◌, ◌<◌, ◌≤◌, true, false, T, sym, refl, ap, ◌∙◌, subst, le_trans, le_of_eq, le_refl, lt_of_lt_of_le, lt_of_le_of_lt, lt_irrefl, mul-le-mul_right, mul_assoc, mul-le-mul, add_comm, le_antisymm, mul-lt-mul_of_pos_right, mul-pos, lt_of_not-le, arith, pow_pos, pow-add}
use Prim.Native.Nat.{compare}
use lib.Pow.{pow-lt}
use lib.Ieee.{Float, nan, inf, fin, Format, prec, emax, low, size, units, hid, fits, of_bits}
use lib.Ieee.Bits.{of_bits-to_bits}
use lib.Ieee.Digits.{size-le}
use lib.Ieee.Exact.{HasValue, units_val}
use lib.Ieee.Scale.{overflow}
use lib.Ieee.Positive.{positive, positive_of_value, value_pos}
use lib.Ieee.Fits.{two, two-le_pos, reach, nearest-le, kept-lt, odd-fits}
use Rattle.arithmetic_floats.specs.Root.{isqrt, count, sqrt_units, sqrt_of, NearestRoot}
use Rattle.arithmetic_floats.proofs.Roots.{isqrt_is}
use Rattle.arithmetic_floats.proofs.Patterns.{units_odd, to_bits_of}
use Rattle.arithmetic_floats.proofs.Counts.{Counted, counted, count_of, count_value, spaced}
use Rattle.arithmetic_floats.proofs.Middle as mid

module _ (f : Format) (n : ℕ) (n_pos : 0 < n) (c : Counted f n) where
  abbrev N : ℕ
  N = n * 2 ^ low f

  is : N ≡ c.m * 2 ^ (c.j + low f)
  is = ap (λ (x : ℕ). x * 2 ^ low f) c.is ∙ mul_assoc c.m (2 ^ c.j) (2 ^ low f) ∙ ap (λ (x : ℕ). c.m * x) (sym (pow-add 2 c.j (low f)))

  p_pos : 0 < prec f
  p_pos = two-le_pos (prec f) (two f)

  some_zeros : 0 < c.j + low f
  some_zeros = some c.j (emax f) (prec f) (two f) (reach f)
    where
      some : (j e p : ℕ) → 2 ≤ p → p ≤ suc e → 0 < j + (e + p - 2)
      some j e p a b = omega arith

  abbrev k : ℕ
  k = mid.k (prec f) N c.m (c.j + low f) p_pos some_zeros is c.m_lt

  abbrev r : ℕ
  r = mid.rounded (prec f) N c.m (c.j + low f) p_pos some_zeros is c.m_lt

  units_are : sqrt_units f n ≡ units f false r k
  unfolding sqrt_units
  units_are = refl

  -- ---- the result is in the format's range

  short : size (isqrt N) ≤ low f + emax f
  short = size-le (isqrt N) (low f + emax f) (lt_of_not-le (λ (g : 2 ^ (low f + emax f) ≤ isqrt N).
      narrow (low f) (emax f) (prec f) (two f) (reach f) (mid.pow_lt_back (low f + emax f + (low f + emax f)) (low f + suc (emax f) + low f)
      (lt_of_le_of_lt (le_trans (le_of_eq (pow-add 2 (low f + emax f) (low f + emax f))) (le_trans (mul-le-mul g g) (isqrt_is N).0))
      (lt_of_lt_of_le (mul-lt-mul_of_pos_right c.n_lt (pow_pos (low f))) (le_of_eq (sym (pow-add 2 (low f + suc (emax f)) (low f)))))))))
    where
      narrow : (l e p : ℕ) → 2 ≤ p → p ≤ suc e → l + e + (l + e) < l + suc e + l → ⊥
      narrow l e p a b h = omega arith

  r_le : r ≤ 2 ^ prec f
  r_le = le_trans (nearest-le (isqrt N / 2 ^ k) (compare (4 * N) (mid.mid (prec f) N c.m (c.j + low f) p_pos some_zeros is c.m_lt * mid.mid (prec f) N c.m (c.j + low f) p_pos some_zeros is c.m_lt))) (kept-lt (prec f) (isqrt N))

  fine : r * 2 ^ k < overflow f
  fine = lt_of_le_of_lt (le_trans (mul-le-mul_right (2 ^ k) r_le) (le_of_eq (sym (pow-add 2 (prec f) k)))) (pow-lt (wide (size (isqrt N)) (prec f) (emax f) (two f) (reach f) short))
    where
      wide : (z p e : ℕ) → 2 ≤ p → p ≤ suc e → z ≤ e + p - 2 + e → p + (z - p) < e + p - 2 + suc e
      wide z p e a b h = omega arith

  value : HasValue (sqrt_units f n) false (r * 2 ^ k) (2 ^ low f)
  value = subst (λ (v : Float). HasValue v false (r * 2 ^ k) (2 ^ low f)) (sym units_are) (units_val f false r k fine)

  counts : count f (sqrt_units f n) ≡ r * 2 ^ k
  counts = count_of f (sqrt_units f n) false (r * 2 ^ k) value

  fits_it : T (fits f (sqrt_units f n))
  fits_it =
      subst (λ (v : Float). T (fits f v)) (sym (units_are ∙ units_odd f r k fine))
      (odd-fits f (suc (prec f)) false r k (lt_of_le_of_lt r_le (pow-lt (le_refl (suc (prec f))))) r_le fine)

  module _ (y : Float) (h : T (fits f y)) where
    at : mid.Spaced (prec f) N c.m (c.j + low f) p_pos some_zeros is c.m_lt (count f y)
    at = let d = counted f y h in spaced (prec f) (count f y) d.m d.j k p_pos d.is d.m_lt

    over_it : count f y < count f (sqrt_units f n) → (count f y + count f (sqrt_units f n)) * (count f y + count f (sqrt_units f n)) < 4 * N
    over_it = subst (λ (x : ℕ). count f y < x → (count f y + x) * (count f y + x) < 4 * N) (sym counts) (mid.over (prec f) N c.m (c.j + low f) p_pos some_zeros is c.m_lt (count f y) at)

    under_it : count f (sqrt_units f n) < count f y → 4 * N < (count f y + count f (sqrt_units f n)) * (count f y + count f (sqrt_units f n))
    under_it = subst (λ (x : ℕ). x < count f y → 4 * N < (count f y + x) * (count f y + x)) (sym counts) (mid.under (prec f) N c.m (c.j + low f) p_pos some_zeros is c.m_lt (count f y) at)

  pub plus_it : T (positive (sqrt_units f n))
  plus_it =
      positive_of_value (sqrt_units f n) (r * 2 ^ k) (2 ^ low f) value
      (mul-pos (mid.rounded_pos (prec f) N c.m (c.j + low f) p_pos some_zeros is c.m_lt (mul-pos n_pos (pow_pos (low f)))) (pow_pos k))

-- a value above zero is one smallest value at least
count_pos : (f : Format) (x : Float) → T (fits f x) → T (positive x) → 0 < count f x
count_pos f x h p = value_pos x (count f x) (2 ^ low f) p (pow_pos (low f)) (count_value f x h p)

root_of : (f : Format) (x : Float) → T (positive x) → sqrt_of f x ≡ sqrt_units f (count f x)
unfolding sqrt_of
root_of f nan p = absurd p
root_of f (inf s) p = absurd p
root_of f (fin true m e) p = absurd p
root_of f (fin false zero e) p = absurd p
root_of f (fin false (suc m) e) p = refl

pub sqrt_nearest : (f : Format) (x : Float) → T (fits f x) → T (positive x) → NearestRoot f x (sqrt_of f x)
sqrt_nearest f x h p =
    let c = counted f x h in
    let n = count_pos f x h p in
    subst (λ (r : Float). NearestRoot f x r) (sym (root_of f x p))
    (record {
      held = fits_it f (count f x) n c;
      plus = plus_it f (count f x) n c;
      over = over_it f (count f x) n c;
      under = under_it f (count f x) n c;
    })

-- ---- and it is the only one

same_count : (f : Format) (r s : Float) → T (fits f r) → T (positive r) → T (fits f s) → T (positive s) → count f r ≡ count f s → r ≡ s
same_count f r s a b c d e =
    sym (of_bits-to_bits f r a)
    ∙ ap (of_bits f) (to_bits_of f r (count f r) (count_value f r a b) ∙ ap (λ (n : ℕ). (size n - prec f) * hid f + n / 2 ^ (size n - prec f)) e ∙ sym (to_bits_of f s (count f s) (count_value f s c d)))
    ∙ of_bits-to_bits f s c

not_less : (f : Format) (x r s : Float) → NearestRoot f x r → NearestRoot f x s → count f r < count f s → ⊥
not_less f x r s a b l =
    lt_irrefl (4 * (count f x * 2 ^ low f))
    (native.Mathlib.Nat.lt_trans (a.under s b.held l) (subst (λ (n : ℕ). n * n < 4 * (count f x * 2 ^ low f)) (add_comm (count f r) (count f s)) (b.over r a.held l)))

pub nearest_unique : (f : Format) (x r s : Float) → NearestRoot f x r → NearestRoot f x s → r ≡ s
nearest_unique f x r s a b =
    same_count f r s a.held a.plus b.held b.plus
    (le_antisymm (not_lt (not_less f x s r b a)) (not_lt (not_less f x r s a b)))
  where
    not_lt : {m n : ℕ} → (n < m → ⊥) → m ≤ n
    not_lt h = omega arith
