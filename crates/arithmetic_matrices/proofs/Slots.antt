-- Laws of the slots of a workspace, and what a function on slots leaves in them. Assumes nothing.
use Prim.Native.Nat.{ℕ, zero, suc, ◌+◌, ◌*◌, ◌/◌, ◌<◌, ◌≤◌}
use native.Mathlib.Omega.{arith}
use native.Mathlib.Nat.{zero-add, div-lt_iff_lt-mul, le-div_iff_mul-le}
use mathlib.Core.Path.{◌≡◌, refl, sym, ◌∙◌, ap}
use mathlib.Core.List.{List, [], ◌∷◌}
use mathlib.Core.Bool.{Bool, true, false, not, ◌||◌, cond, true≢false}
use mathlib.Core.Logic.{◌⊎◌, inl, inr}
use lib.Dec.{ltb, eqb}
use lib.ListN.{length}
use lib.Seq.{ext_get_or}
use borrow.Author.Tests.{eqb-false, ne_eqb, eq-eqb, le-ltb}
use lib.Ieee.{Float, Format, nan}
use Rattle.arithmetic_floats.specs.Float.{+zero}
use Rattle.arithmetic_matrices.specs.Matrix.{tab, item, part, put, Apart}
use Rattle.arithmetic_matrices.specs.Product.{mul_m, squared}
use Rattle.arithmetic_matrices.specs.Workspace.{slot, store, Room, member, Only, cleared}
use Rattle.arithmetic_matrices.specs.Kernels.{Squared}
use Rattle.arithmetic_floats.proofs.Order.{split}
use Rattle.arithmetic_matrices.proofs.MatrixLaws.{length-tab, tab_cong, square_le}
use Rattle.arithmetic_matrices.proofs.PartLaws.{length-put, length_part, part_put, part_put_apart, get_or-put_before, get_or-put_after, get_or-put_in}
use Rattle.arithmetic_matrices.proofs.ProductLaws.{length-mul_m, squared_more}

pub length-slot : (n : ℕ) (w : List Float) (s : ℕ) → length (slot n w s) ≡ n * n
unfolding slot
length-slot n w s = length_part w (256 * s) (n * n)

pub length-store : (w : List Float) (s : ℕ) (x : List Float) → length (store w s x) ≡ length w
unfolding store
length-store w s x = length-put w (256 * s) x

-- different slots have no place in common, whatever the orders of what is in them
pub slots_apart : (s t k m : ℕ) → eqb s t ≡ false → k ≤ 256 → m ≤ 256 → Apart (256 * s) k (256 * t) m
slots_apart s t k m e b c = go (split s t)
  where
    go : (s < t) ⊎ (t ≤ s) → Apart (256 * s) k (256 * t) m
    go (inl p) = inl (omega arith)
    go (inr p) = let h : (s ≡ t → ⊥) = eqb-false s t e in inr (omega arith)

-- what was stored is read back
pub slot_store : (n : ℕ) (w : List Float) (s : ℕ) (x : List Float) → length x ≡ n * n → 256 * s + n * n ≤ length w → slot n (store w s x) s ≡ x
unfolding slot store
slot_store n w s x e h = part_put w (256 * s) x (n * n) e h

-- and what is apart from it is as it was
pub slot_other : (n : ℕ) (w : List Float) (s t : ℕ) (x : List Float) → Apart (256 * s) (n * n) (256 * t) (length x) → slot n (store w t x) s ≡ slot n w s
unfolding slot store
slot_other n w s t x h = part_put_apart w (256 * t) (length x) x (256 * s) (n * n) h (omega arith)

pub eqb_swap : (s t : ℕ) → eqb s t ≡ false → eqb t s ≡ false
eqb_swap s t e = ne_eqb t s (λ q. eqb-false s t e (sym q))

-- a workspace of the same length has the same room, and the room is enough for a slot
pub room_kept : {n : ℕ} {w w' : List Float} → Room n w → length w' ≡ length w → Room n w'
room_kept r e = record { order = r.order; space = rw e r.space }

pub room_within : {n : ℕ} {w : List Float} (s : ℕ) → Room n w → s < 32 → 256 * s + n * n ≤ length w
room_within {n} {w} s r h = omega (arith, square_le n r.order, r.space)

-- ---- a run of slots

-- whether S picks the k slots from t on
abbrev pub picks : (ℕ → Bool) → ℕ → ℕ → Bool
picks S t zero = true
picks S t (suc k) = cond (S t) (picks S (suc t) k) false

pub picked : (S : ℕ → Bool) (t k : ℕ) → picks S t k ≡ true → (s : ℕ) → t ≤ s → s < t + k → S s ≡ true
picked S t zero p s a b = absurd (omega arith)
picked S t (suc k) p s a b = go (S t) refl p (split t s) (λ r c. picked S (suc t) k r s c (omega arith))
  where
    go : (b : Bool) → S t ≡ b → cond b (picks S (suc t) k) false ≡ true → (t < s) ⊎ (s ≤ t) → (picks S (suc t) k ≡ true → t < s → S s ≡ true) → S s ≡ true
    go false q r c rest = absurd (true≢false (sym r))
    go true q r (inl c) rest = rest r c
    go true q r (inr c) rest = let e : s ≡ t = omega arith in ap S e ∙ q

-- the slot of a place in a run
run_from : (t k i : ℕ) → 256 * t ≤ i → t ≤ i / 256
run_from t k i h = (le-div_iff_mul-le {k = 256} {x = t} {y = i} (omega arith)).1 (omega arith)

run_to : (t k i : ℕ) → i < 256 * t + 256 * k → i / 256 < t + k
run_to t k i h = (div-lt_iff_lt-mul {k = 256} {x = i} {y = t + k} (omega arith)).1 (omega arith)

-- ---- what changes only some slots

pub member_here : (s : ℕ) (ss : List ℕ) → member (s ∷ ss) s ≡ true
member_here s ss = rw (eq-eqb s s refl)

pub member_next : (t : ℕ) (ss : List ℕ) (s : ℕ) → member ss s ≡ true → member (t ∷ ss) s ≡ true
member_next t ss s e = rw e (or_true (eqb s t))
  where
    or_true : (b : Bool) → (b || true) ≡ true
    or_true true = refl
    or_true false = refl

pub only_refl : (S : ℕ → Bool) (w : List Float) → Only S w w
only_refl S w = record { long = refl; kept = λ i h. refl }

pub only_trans : {S : ℕ → Bool} {w w' w'' : List Float} → Only S w w' → Only S w' w'' → Only S w w''
only_trans p q = record { long = q.long ∙ p.long; kept = λ i h. q.kept i h ∙ p.kept i h }

-- what changes some slots changes more
pub only_more : {S S' : ℕ → Bool} {w w' : List Float} → ((s : ℕ) → S' s ≡ false → S s ≡ false) → Only S w w' → Only S' w w'
only_more h p = record { long = p.long; kept = λ i e. p.kept i (h (i / 256) e) }

-- a store that stays within the k slots from t on
pub only_run : (S : ℕ → Bool) (w : List Float) (t k : ℕ) (x : List Float) → picks S t k ≡ true → length x ≤ 256 * k → Only S w (store w t x)
unfolding store
only_run S w t k x p l = record {
  long = length-put w (256 * t) x;
  kept = λ i h. go i h (split i (256 * t)) (split i (256 * t + 256 * k));
}
  where
    go : (i : ℕ) → S (i / 256) ≡ false → (i < 256 * t) ⊎ (256 * t ≤ i) → (i < 256 * t + 256 * k) ⊎ (256 * t + 256 * k ≤ i) → item (put w (256 * t) x) i ≡ item w i
    go i h (inl a) b = get_or-put_before w (256 * t) x i nan a
    go i h (inr a) (inr b) = get_or-put_after w (256 * t) x i nan (omega arith)
    go i h (inr a) (inl b) = absurd (true≢false (sym (picked S t k p (i / 256) (run_from t k i a) (run_to t k i b)) ∙ h))

pub only_store : (S : ℕ → Bool) (w : List Float) (t : ℕ) (x : List Float) → S t ≡ true → length x ≤ 256 → Only S w (store w t x)
only_store S w t x m l = only_run S w t 1 x (rw m) (omega arith)

-- a matrix in the k slots from s on, none of which changes
pub slot_only : (n : ℕ) (S : ℕ → Bool) (w w' : List Float) (s k : ℕ) → Only S w w' → n * n ≤ 256 * k → picks (λ t. not (S t)) s k ≡ true → slot n w' s ≡ slot n w s
unfolding slot part
slot_only n S w w' s k o h p =
    tab_cong (n * n) (λ i. item w' (256 * s + i)) (λ i. item w (256 * s + i))
    (λ i b. o.kept (256 * s + i) (off (S ((256 * s + i) / 256)) (picked (λ t. not (S t)) s k p ((256 * s + i) / 256) (run_from s k (256 * s + i) (omega arith)) (run_to s k (256 * s + i) (omega arith)))))
  where
    off : (b : Bool) → not b ≡ true → b ≡ false
    off true e = absurd (true≢false (sym e))
    off false e = refl

-- a slot that a call does not change
pub slot_kept : (n : ℕ) {w w' : List Float} (ss : List ℕ) → Room n w → Only (member ss) w w' → (s : ℕ) → picks (λ t. not (member ss t)) s 1 ≡ true → slot n w' s ≡ slot n w s
slot_kept n {w} {w'} ss r o s p = slot_only n (member ss) w w' s 1 o (omega (arith, square_le n r.order)) p

-- ---- squaring

pub squared_none : (f : Format) (n : ℕ) (w : List Float) (a t : ℕ) → Squared f n w a t 0 w
unfolding squared
squared_none f n w a t = record { power = refl; only = only_refl _ w }

-- one squaring more: the product into slot t, and back into slot a
pub squared_step : (f : Format) (n : ℕ) (w : List Float) (a t s : ℕ) (w' : List Float) → Room n w → a < 32 → t < 32 → Squared f n w a t s w'
    → let w1 : List Float = store w' t (mul_m f n (slot n w' a) (slot n w' a)) in Squared f n w a t (s + 1) (store w1 a (slot n w1 t))
squared_step f n w a t s w' r ha ht S = record {
  power = slot_store n w1 a (slot n w1 t) (length-slot n w1 t) (room_within a r1 ha) ∙ product ∙ rw (S.power, squared_more);
  only =
      only_trans S.only
      (only_trans (only_store (member (a ∷ t ∷ [])) w' t M (member_next a (t ∷ []) t (member_here t [])) (omega (arith, square_le n r.order, length-mul_m f n (slot n w' a) (slot n w' a))))
      (only_store (member (a ∷ t ∷ [])) w1 a (slot n w1 t) (member_here a (t ∷ [])) (omega (arith, square_le n r.order, length-slot n w1 t))));
}
  where
    M : List Float
    M = mul_m f n (slot n w' a) (slot n w' a)

    w1 : List Float
    w1 = store w' t M

    r' : Room n w'
    r' = room_kept r S.only.long

    r1 : Room n w1
    r1 = room_kept r' (length-store w' t M)

    product : slot n w1 t ≡ M
    product = slot_store n w' t M (length-mul_m f n (slot n w' a) (slot n w' a)) (room_within t r' ht)

-- ---- clearing

-- A list whose first numbers are replaced does not tell what they were. (Over any count: with the number 8192 in its place antt would write the table out.)
put_covers : (w w' xs : List Float) → length xs ≤ length w → length w' ≡ length w → ((i : ℕ) → length xs ≤ i → item w' i ≡ item w i) → put w' 0 xs ≡ put w 0 xs
put_covers w w' xs b l e =
    ext_get_or nan (put w' 0 xs) (put w 0 xs) (length-put w' 0 xs ∙ l ∙ sym (length-put w 0 xs))
    (λ i h. go i (split i (length xs)))
  where
    go : (i : ℕ) → (i < length xs) ⊎ (length xs ≤ i) → item (put w' 0 xs) i ≡ item (put w 0 xs) i
    go i (inl h) = rw zero-add at (get_or-put_in w' 0 xs i nan h (omega arith)) ∙ sym (rw zero-add at (get_or-put_in w 0 xs i nan h (omega arith)))
    go i (inr h) = get_or-put_after w' 0 xs i nan (omega arith) ∙ e i h ∙ sym (get_or-put_after w 0 xs i nan (omega arith))

clear_covers : (k : ℕ) (w w' : List Float) → k ≤ length w → length w' ≡ length w → ((i : ℕ) → k ≤ i → item w' i ≡ item w i) → put w' 0 (tab k (λ i. +zero)) ≡ put w 0 (tab k (λ i. +zero))
clear_covers k w w' b l e = put_covers w w' (tab k (λ i. +zero)) (rw length-tab b) l (λ i h. e i (rw length-tab at h))

-- Whatever a function did to the slots, once they are cleared the workspace is the one it began with, cleared.
pub cleared_only : (w w' : List Float) → 8192 ≤ length w → Only (λ s. ltb s 32) w w' → cleared w' ≡ cleared w
unfolding cleared
cleared_only w w' r o = clear_covers 8192 w w' r o.long (λ i h. o.kept i (le-ltb (i / 256) 32 (omega arith)))
