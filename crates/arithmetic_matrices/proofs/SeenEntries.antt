-- The laws of loops and of parts over numbers that are seen as floats, as generic code sees its own. Each takes what it needs of the laws of `Real`.
-- Assumes nothing.
use Prim.Native.Nat.{ℕ, ◌+◌, ◌-◌, ◌*◌, ◌<◌, ◌≤◌}
use native.Mathlib.Omega.{arith}
use mathlib.Core.Path.{◌≡◌, sym, ◌∙◌, ap}
use mathlib.Core.List.{List, ◌++◌, append_assoc}
use lib.ListN.{length, set, take, drop}
use borrow.Rule.Slice.PartMut.{put_mid, Post-is}
use lib.Ieee.{Float, Format, sub}
use Rattle.std.specs.List.{copy_within}
use Rattle.arithmetic_floats.specs.Float.{one}
use Rattle.arithmetic_matrices.specs.Matrix.{item, part, put}
use Rattle.arithmetic_matrices.specs.Workspace.{Room}
use Rattle.arithmetic_matrices.proofs.PartLaws.{length_part, lent, returned}
use Rattle.arithmetic_matrices.proofs.Slots.{room_within}
use Rattle.arithmetic_matrices.proofs.LoopLaws.{Stored, stored_turn, stored_turn0, SlotEntries, entries_turn, LessIdentity, less_turn, diagonal_inside}

-- the next place of the diagonal is within the workspace
pub less_inside : {f : Format} {n a : ℕ} {w₀ w : List Float} {q i : ℕ} → LessIdentity f n a w₀ w q i → Room n w₀ → a < 32 → i < n → q < length w
less_inside {a = a} s r b h = omega (arith, diagonal_inside s.walk h, s.long, room_within a r b)

-- what `copy_within` leaves is the whole with the part in its new place
within_mid : {A : Type 0} (w : List A) (x y m : ℕ) → y + m ≤ length w → copy_within w x (x + m) y ≡ put_mid y (y + m - y) w (take (x + m - x) (drop x w))
within_mid w x y m h =
    let e : x + m - x ≡ m = omega arith in
    rw e (append_assoc (take y w) (take m (drop x w)) (drop (y + m) w) ∙ ap (λ l. take y w ++ (take m (drop x w) ++ l)) (sym (Post-is y (y + m) w (omega arith))))

-- ---- a turn that stores v

module _ {A : Type 0} (float : A → Float) (floats : List A → List Float) where
  module _ (w : List A) (v : A) (law : (l : List A) (i : ℕ) (x : A) → floats (set l i x) ≡ set (floats l) i (float x)) where
    pub seen_turn : {n c : ℕ} {F : ℕ → Float} {w₀ : List Float} {k : ℕ} → SlotEntries n c F w₀ (floats w) k → k < n * n → float v ≡ F k → SlotEntries n c F w₀ (floats (set w (256 * c + k) v)) (k + 1)
    seen_turn {c = c} {k = k} s h e = rw (law w (256 * c + k) v) (entries_turn s h e)

    pub seen_stored : {y m : ℕ} {F : ℕ → Float} {w₀ : List Float} {k : ℕ} → Stored y m F w₀ (floats w) k → k < m → float v ≡ F k → Stored y m F w₀ (floats (set w (y + k) v)) (k + 1)
    seen_stored {y} {k = k} s h e = rw (law w (y + k) v) (stored_turn s h e)

    pub seen_stored0 : {m : ℕ} {F : ℕ → Float} {w₀ : List Float} {k : ℕ} → Stored 0 m F w₀ (floats w) k → k < m → float v ≡ F k → Stored 0 m F w₀ (floats (set w k v)) (k + 1)
    seen_stored0 {k = k} s h e = rw (law w k v) (stored_turn0 s h e)

    pub seen_less : {f : Format} {n a : ℕ} {w₀ : List Float} {q i : ℕ} → LessIdentity f n a w₀ (floats w) q i → Room n w₀ → a < 32 → i < n → float v ≡ sub f (item (floats w) q) one
        → LessIdentity f n a w₀ (floats (set w q v)) (q + (n + 1)) (i + 1)
    seen_less {q = q} s r b h e = rw (law w q v, e) (less_turn s r b h)

-- ---- a part that is lent, and the whole once it is back

module _ {A : Type 0} (floats : List A → List Float) where
  module _ (w : List A) (length_law : (l : List A) → length (floats l) ≡ length l) (take_law : (k : ℕ) (l : List A) → floats (take k l) ≡ take k (floats l)) (drop_law : (k : ℕ) (l : List A) → floats (drop k l) ≡ drop k (floats l)) where
    pub seen_part : (o n : ℕ) → o + n ≤ length w → floats (take (o + n - o) (drop o w)) ≡ part (floats w) o n
    seen_part o n h = take_law _ _ ∙ ap (take (o + n - o)) (drop_law o w) ∙ lent (floats w) o n (omega (arith, length_law w))

  module _ (w : List A) (length_law : (l : List A) → length (floats l) ≡ length l) (put_mid_law : (a k : ℕ) (l m : List A) → floats (put_mid a k l m) ≡ put_mid a k (floats l) (floats m)) where
    pub seen_put : (o n : ℕ) (ys : List A) → length ys ≡ n → o + n ≤ length w → floats (put_mid o (o + n - o) w ys) ≡ put (floats w) o (floats ys)
    seen_put o n ys e h = put_mid_law _ _ w ys ∙ returned (floats w) (floats ys) o n (length_law ys ∙ e) (omega (arith, length_law w))

  -- a part that is copied to another place
  pub seen_within : (w : List A) (length_law : (l : List A) → length (floats l) ≡ length l) (take_law : (k : ℕ) (l : List A) → floats (take k l) ≡ take k (floats l)) (drop_law : (k : ℕ) (l : List A) → floats (drop k l) ≡ drop k (floats l))
      (put_mid_law : (a k : ℕ) (l m : List A) → floats (put_mid a k l m) ≡ put_mid a k (floats l) (floats m)) (x y m : ℕ) → x + m ≤ length w → y + m ≤ length w
      → floats (copy_within w x (x + m) y) ≡ put (floats w) y (part (floats w) x m)
  seen_within w length_law take_law drop_law put_mid_law x y m hx hy =
      let moved : List A = take (x + m - x) (drop x w) in
      let from : floats moved ≡ part (floats w) x m = seen_part w length_law take_law drop_law x m hx in
      let few : length moved ≡ m = sym (length_law moved) ∙ ap length from ∙ length_part (floats w) x m in
      ap floats (within_mid w x y m hy) ∙ seen_put w length_law put_mid_law y m moved few hy ∙ ap (put (floats w) y) from
