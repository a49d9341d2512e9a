-- Laws of the definitions of the solution and the determinant (Solve.antt), over the format: one for the start, for a turn and for the end of each loop.
-- Assumes nothing.
use Prim.Native.Nat.{ℕ, zero, suc, ◌+◌, ◌-◌, ◌≤◌, ◌<◌}
use mathlib.Core.Path.{◌≡◌, refl, ap, ◌∙◌}
use mathlib.Core.Bool.{Bool, cond}
use mathlib.Core.List.{List}
use mathlib.Core.Logic.{⊎_elim}
use native.Mathlib.Omega.{arith}
use native.Mathlib.Numerals.{add-one}
use lib.Dec.{eqb}
use lib.ListN.{length, get_or, set, length-set}
use lib.Seq.{get_or-set_same, get_or-set_other}
use lib.Ieee.{Float, nan, Format, mul, sub, div}
use borrow.Author.Tests.{lt-ltb, le-ltb, eq-eqb, ne_eqb}
use Rattle.arithmetic_matrices.specs.Matrix.{at, item}
use Rattle.arithmetic_matrices.specs.Kernels.{patch}
use Rattle.arithmetic_floats.proofs.Order.{split, same_or_not}
use Rattle.arithmetic_matrices.proofs.MatrixLaws.{length-tab, tab_is}
use Rattle.arithmetic_matrices.proofs.PatchLaws.{length-patch, patch_more, patch_in, patch_below, patch_above}
use Rattle.lu_factoring.specs.Solve.{swap_items, permuted, forward_step, forward, back_step, back, swaps, signed_product}
use Rattle.lu_factoring.specs.Kernels.{lowered}

-- ---- swaps

pub permuted_more : (n : ℕ) (ps : List ℕ) (x : List Float) (k : ℕ) → swap_items n k (get_or ps k 0) (permuted n ps x k) ≡ permuted n ps x (k + 1)
unfolding permuted
permuted_more n ps x k = rw add-one

pub length-permuted : (n : ℕ) (ps : List ℕ) (x : List Float) (k : ℕ) → length x ≡ n → length (permuted n ps x k) ≡ n
unfolding permuted swap_items
length-permuted n ps x zero h = h
length-permuted n ps x (suc k) h = length-tab n _

-- ---- the rows from lo up to i, less their factors in column k times row k

module _ (f : Format) (n : ℕ) (F : List Float) (k lo i : ℕ) (l : List Float) (from : lo ≤ i) where
  pub lowered_more : (y : List Float) (v z : Float) → i < length l → y ≡ patch lo i (lowered f n F k l) l → v ≡ at n F i k → z ≡ item l k
      → set y i (sub f (item y i) (mul f v z)) ≡ patch lo (i + 1) (lowered f n F k l) l
  lowered_more y v z hi e ev ez =
      rw (e, ev, ez, patch_above lo i (lowered f n F k l) l i nan from (omega arith) hi) (patch_more nan lo (lowered f n F k l) l i from hi)

-- ---- forward substitution

-- one column: the rows below row k are done
pub forward_step_lem : (f : Format) (n : ℕ) (F : List Float) (k : ℕ) (x : List Float) → length x ≡ n → k < n → patch (k + 1) n (lowered f n F k x) x ≡ forward_step f n F k x
unfolding forward_step
forward_step_lem f n F k x size hk =
    tab_is nan n _ (patch (k + 1) n (lowered f n F k x) x) (length-patch (k + 1) n (lowered f n F k x) x ∙ size)
    (λ i h.
    ⊎_elim (λ w. rw (lt-ltb k i w) (patch_in (k + 1) n (lowered f n F k x) x i nan (omega arith) h (omega arith)))
    (λ w. rw (le-ltb k i w) (patch_below (k + 1) n (lowered f n F k x) x i nan (omega arith) (omega arith)))
    (split k i))

length-forward_step : (f : Format) (n : ℕ) (F : List Float) (k : ℕ) (x : List Float) → length (forward_step f n F k x) ≡ n
unfolding forward_step
length-forward_step f n F k x = length-tab n _

pub forward_turn : (f : Format) (n : ℕ) (F x₀ x x1 : List Float) (k : ℕ) → x ≡ forward f n F x₀ k → x1 ≡ forward_step f n F k x → x1 ≡ forward f n F x₀ (k + 1)
unfolding forward
forward_turn f n F x₀ x x1 k e e1 = e1 ∙ rw (e, add-one)

pub length-forward : (f : Format) (n : ℕ) (F x : List Float) (k : ℕ) → length x ≡ n → length (forward f n F x k) ≡ n
unfolding forward
length-forward f n F x zero h = h
length-forward f n F x (suc k) h = length-forward_step f n F k (forward f n F x k)

-- ---- back substitution

-- one column: y is x with x(k) divided, and then the rows above row k are done
pub back_step_lem : (f : Format) (n : ℕ) (F : List Float) (k : ℕ) (x y : List Float) → length x ≡ n → k < n → y ≡ set x k (div f (item x k) (at n F k k))
    → patch 0 k (lowered f n F k y) y ≡ back_step f n F k x
unfolding back_step
back_step_lem f n F k x y size hk e =
    tab_is nan n _ (patch 0 k g y) (length-patch 0 k g y ∙ long)
    (λ i h.
    ⊎_elim (λ (s : i ≡ k). rw (s, eq-eqb k k refl) (patch_above 0 k g y k nan (omega arith) (omega arith) (rw long hk) ∙ same))
    (λ (d : i ≡ k → ⊥).
    rw (ne_eqb i k d)
    (⊎_elim (λ w. patch_in 0 k g y i nan (omega arith) w (rw long h) ∙ rw (lt-ltb i k w, same, other i d))
    (λ w. patch_above 0 k g y i nan (omega arith) w (rw long h) ∙ other i d ∙ rw (le-ltb i k w))
    (split i k)))
    (same_or_not i k))
  where
    g : ℕ → Float
    g = lowered f n F k y

    long : length y ≡ n
    long = ap length e ∙ length-set x k (div f (item x k) (at n F k k)) ∙ size

    same : item y k ≡ div f (item x k) (at n F k k)
    same = ap (λ l. item l k) e ∙ get_or-set_same x k (div f (item x k) (at n F k k)) nan (rw size hk)

    other : (i : ℕ) → (i ≡ k → ⊥) → item y i ≡ item x i
    other i d = ap (λ l. item l i) e ∙ get_or-set_other x k i (div f (item x k) (at n F k k)) nan d

pub length-back_step : (f : Format) (n : ℕ) (F : List Float) (k : ℕ) (x : List Float) → length (back_step f n F k x) ≡ n
unfolding back_step
length-back_step f n F k x = length-tab n _

-- the loop counts k down: k columns are left, n - k are done
pub back_turn : (f : Format) (n : ℕ) (F x₀ x x1 : List Float) (k : ℕ) → x ≡ back f n F x₀ k → x1 ≡ back_step f n F (n - (k + 1)) x → x1 ≡ back f n F x₀ (k + 1)
unfolding back
back_turn f n F x₀ x x1 k e e1 = e1 ∙ rw (e, add-one)

pub length_back : (f : Format) (n : ℕ) (F x : List Float) (d : ℕ) → length x ≡ n → length (back f n F x d) ≡ n
unfolding back
length_back f n F x zero h = h
length_back f n F x (suc d) h = length-back_step f n F (n - suc d) (back f n F x d)

-- ---- the determinant

pub swaps_turn : (ps : List ℕ) (k c c1 p : ℕ) → c ≡ swaps ps k → p ≡ get_or ps k 0 → (b : Bool) → eqb p k ≡ b → c1 ≡ c + cond b 0 1 → c1 ≡ swaps ps (k + 1)
unfolding swaps
swaps_turn ps k c c1 p e ep b t e1 = e1 ∙ rw (add-one, ← ep, t, e)

pub product_turn : (f : Format) (n : ℕ) (F : List Float) (s d d1 v : Float) (k : ℕ) → d ≡ signed_product f n F s k → v ≡ at n F k k → d1 ≡ mul f d v → d1 ≡ signed_product f n F s (k + 1)
unfolding signed_product
product_turn f n F s d d1 v k e ev e1 = e1 ∙ rw (e, ev, add-one)
