-- The reciprocals of the series: worked out in binary64 and then rounded, they are those of each format. Assumes nothing.
use Prim.Native.Nat.{ℕ}
use mathlib.Core.Path.{◌≡◌, sym, ◌∙◌, subst}
use mathlib.Core.Bool.{Bool, ◌||◌}
use mathlib.Core.Logic.{◌⊎◌, inl, inr}
use lib.IntN.{pos}
use lib.Dec.{T, eqb}
use lib.Ieee.{Float, Format, div, of_int}
use borrow.Author.Tests.{ne_eqb}
use Rattle.arithmetic_floats.specs.Float.{one}
use Rattle.arithmetic_floats.proofs.Order.{same_or_not}
use Rattle.arithmetic_floats.proofs.Widths.{OverOnce, overs}
use Rattle.arithmetic_matrices.specs.Workspace.{member}
use Rattle.functions_definitions.specs.Trigonometric.{one_over}
use Rattle.functions_trigonometric.specs.Kernels.{reciprocals}

-- k is m, or one of the others
pick : (P : ℕ → Type 0) (k m : ℕ) (b : Bool) → P m → (T b → P k) → T (eqb k m || b) → P k
pick P k m b p q h = go (same_or_not k m)
  where
    go : (k ≡ m) ⊎ (k ≡ m → ⊥) → P k
    go (inl e) = subst P (sym e) p
    go (inr d) = q (rw (ne_eqb k m d) at h)

-- what holds at each of them
each : (P : ℕ → Type 0) → P 2 → P 6 → P 24 → P 120 → P 720 → P 5040 → P 40320 → (k : ℕ) → T (member reciprocals k) → P k
each P a b c d e f g k =
    pick P k 2 _ a (pick P k 6 _ b (pick P k 24 _ c (pick P k 120 _ d (pick P k 720 _ e (pick P k 5040 _ f (pick P k 40320 _ g (λ h. absurd h)))))))

over_once : (f : Format) (k : ℕ) → T (member reciprocals k) → OverOnce f k
over_once f = let o = overs f in each (OverOnce f) o.over_2 o.over_6 o.over_24 o.over_120 o.over_720 o.over_5040 o.over_40320

-- u and v are 1 and k as floats, as the code has them
pub reciprocal : (f : Format) (k : ℕ) (u v : Float) → T (member reciprocals k) → u ≡ one → v ≡ of_int f (pos k) → div f u v ≡ one_over f k
unfolding one_over
reciprocal f k u v h d e = (λ i. div f (d i) (e i)) ∙ sym (over_once f k h)
