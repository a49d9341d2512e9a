-- Numbers that the source works out in binary64 and then rounds to the format: rounding once gives the same, where the functions use them. By computation. Assumes nothing.
use Rattle.std.proofs.Common.{◌≡◌, ℕ, zero, suc, ◌<◌, ◌≤◌, false, pos, negsuc, sym, refl, ◌∙◌, subst, inl, inr, arith}
use lib.Count.{count_trailing_zeros}
use lib.Ieee.{fin, Format, binary32, binary64, span, climb, size, odd, units, round, div, of_int}
use Rattle.arithmetic_floats.specs.Float.{one, constant}
use Rattle.arithmetic_floats.specs.Root.{root_digits, isqrt, sqrt_units, sqrt_of}
use Rattle.arithmetic_floats.proofs.Order.{same_or_not}

abbrev pub RootOnce : Format → ℕ → Type 0
RootOnce f n = constant f (sqrt_of binary64 (of_int binary64 (pos n))) ≡ sqrt_of f (of_int f (pos n))

-- P at every number below k, and at one of them
abbrev Below : (ℕ → Type 0) → ℕ → Type 0
Below P zero = Unit {0}
Below P (suc k) = Below P k × P k

at : (P : ℕ → Type 0) (k n : ℕ) → Below P k → n < k → P n
at P zero n all h = absurd (omega arith)
at P (suc k) n all h = elim (same_or_not n k) [ inl e ↦ subst P (sym e) all.1 | inr d ↦ at P k n all.0 (omega arith) ]

narrow_roots : Below (RootOnce binary32) 17
unfolding count_trailing_zeros span climb size odd units round of_int constant root_digits isqrt sqrt_units sqrt_of
narrow_roots = (((((((((((((((((tt, refl), refl), refl), refl), refl), refl), refl), refl), refl), refl), refl), refl), refl), refl), refl), refl), refl)

-- the root of an order that a workspace holds
pub root_once : (f : Format) (n : ℕ) → n ≤ 16 → RootOnce f n
unfolding constant
root_once binary64 n h = refl
root_once binary32 n h = at (RootOnce binary32) 17 n narrow_roots (omega arith)

abbrev pub OverOnce : Format → ℕ → Type 0
OverOnce f k = constant f (div binary64 one (of_int binary64 (pos k))) ≡ div f one (of_int f (pos k))

-- one over the factorials of the series
pub record Overs (f : Format) : Type 0 where
  pub over_2 : OverOnce f 2
  pub over_6 : OverOnce f 6
  pub over_24 : OverOnce f 24
  pub over_120 : OverOnce f 120
  pub over_720 : OverOnce f 720
  pub over_5040 : OverOnce f 5040
  pub over_40320 : OverOnce f 40320

narrow_overs : Overs binary32
unfolding count_trailing_zeros span climb size odd units round of_int div constant
narrow_overs = record { over_2 = ◌∙◌ {b = fin false 1 (negsuc 0)} refl refl; over_6 = ◌∙◌ {b = fin false 11184811 (negsuc 25)} refl refl; over_24 = ◌∙◌ {b = fin false 11184811 (negsuc 27)} refl refl; over_120 = ◌∙◌ {b = fin false 8947849 (negsuc 29)} refl refl; over_720 = ◌∙◌ {b = fin false 11930465 (negsuc 32)} refl refl; over_5040 = ◌∙◌ {b = fin false 13634817 (negsuc 35)} refl refl; over_40320 = ◌∙◌ {b = fin false 13634817 (negsuc 38)} refl refl }

pub overs : (f : Format) → Overs f
unfolding constant
overs binary32 = narrow_overs
overs binary64 = record { over_2 = refl; over_6 = refl; over_24 = refl; over_120 = refl; over_720 = refl; over_5040 = refl; over_40320 = refl }
