-- What the slots of a workspace hold while a function runs, as a function of the slot: at slots that are numerals a read of it computes. Matrices of
-- different orders stand side by side, and a large one spans several slots. Assumes nothing.
use Prim.Native.Nat.{ℕ, ◌+◌, ◌*◌, ◌≤◌}
use native.Mathlib.Omega.{arith}
use mathlib.Core.Path.{◌≡◌, refl, sym, ◌∙◌, ap}
use mathlib.Core.List.{List, [], ◌∷◌}
use mathlib.Core.Bool.{Bool, true, false, not, cond, true≢false}
use mathlib.Core.Logic.{inl, inr}
use lib.Dec.{leb, eqb}
use lib.ListN.{length}
use borrow.Author.Tests.{leb-true, eqb-true, ne_eqb}
use lib.Ieee.{Float, Format}
use Rattle.arithmetic_matrices.specs.Matrix.{tab, part, Apart}
use Rattle.arithmetic_matrices.specs.Product.{mul_m, times_m, add_multiple_m, deduct_m, zero_m, add_m, mean_m, difference_quotient_m, diagonal_m, identity_m, minus_identity_m, transpose_m}
use Rattle.arithmetic_matrices.specs.Workspace.{slot, store, Room, member, Only}
use Rattle.arithmetic_matrices.proofs.MatrixLaws.{square_le}
use Rattle.arithmetic_matrices.proofs.ProductLaws.{length-mul_m, length-times_m, length-add_multiple_m, length-deduct_m, length-zero_m, length-add_m, length-mean_m, length-difference_quotient_m, length-diagonal_m, length-identity_m, length-minus_identity_m, length-transpose_m}
use Rattle.arithmetic_matrices.proofs.Slots.{length-slot, length-store, slot_store, slot_other, picks, only_refl, only_trans, only_more, only_run, slot_only}

-- a matrix of an order, within so many slots from its first on
pub record Held : Type 0 where
  pub order : ℕ
  pub span : ℕ
  pub entries : List Float

-- one that stands in one slot, and nothing that is known
abbrev pub held : ℕ → List Float → Held
held n x = record { order = n; span = 1; entries = x }

abbrev pub unknown : Held
unknown = record { order = 0; span = 0; entries = [] }

pub record Holds (w : List Float) (s : ℕ) (h : Held) : Type 0 where
  pub sized : length h.entries ≡ h.order * h.order
  pub within : h.order * h.order ≤ 256 * h.span
  pub reads : slot h.order w s ≡ h.entries

-- p slots from s on and q slots from t on have none in common
abbrev pub apart : ℕ → ℕ → ℕ → ℕ → Bool
apart s p t q = cond (leb (s + p) t) true (leb (t + q) s)

-- σ with h from slot t on: what it covers is forgotten
abbrev pub upd : (ℕ → Held) → ℕ → Held → ℕ → Held
upd σ t h s = cond (eqb s t) h (cond (apart s (σ s).span t h.span) (σ s) unknown)

-- Where a function stands that began at w₀ and may change the slots that S picks: each slot holds what σ says.
pub record State (S : ℕ → Bool) (w₀ w : List Float) (σ : ℕ → Held) : Type 0 where
  pub space : 8192 ≤ length w
  pub only : Only S w₀ w
  pub holds : (s : ℕ) → Holds w s (σ s)

holds_none : (w : List Float) (s : ℕ) → Holds w s unknown
unfolding slot part tab
holds_none w s = record { sized = refl; within = omega arith; reads = refl }

-- at the start every slot is read as a matrix of one order
pub start : {w : List Float} (S : ℕ → Bool) (n : ℕ) → Room n w → State S w w (λ s. held n (slot n w s))
start {w} S n r = record {
  space = r.space;
  only = only_refl S w;
  holds = λ s. record { sized = length-slot n w s; within = omega (arith, square_le n r.order); reads = refl };
}

-- what a slot holds, of the order that is asked for
pub held_at : {S : ℕ → Bool} {w₀ w : List Float} {σ : ℕ → Held} (s n : ℕ) → State S w₀ w σ → (σ s).order ≡ n → slot n w s ≡ (σ s).entries
held_at {w = w} s n H e = ap (λ (k : ℕ). slot k w s) (sym e) ∙ (H.holds s).reads

-- x is stored from slot t on, x being what h says in terms of σ
pub step_store : {S : ℕ → Bool} {w₀ w w' : List Float} {σ : ℕ → Held} (t : ℕ) (x : List Float) (h : Held)
    → State S w₀ w σ → w' ≡ store w t x → x ≡ h.entries → length h.entries ≡ h.order * h.order → h.order * h.order ≤ 256 * h.span
    → leb (t + h.span) 32 ≡ true → picks S t h.span ≡ true → State S w₀ w' (upd σ t h)
step_store {S} {w₀} {w} {w'} {σ} t x h H e q l k ht hS = record {
  space = rw (e', length-store) H.space;
  only = only_trans H.only (rw e' (only_run S w t h.span h.entries hS (omega arith)));
  holds = λ s. rw e' (go s (eqb s t) refl);
}
  where
    y : List Float
    y = h.entries

    e' : w' ≡ store w t y
    e' = e ∙ ap (store w t) q

    room : 256 * t + h.order * h.order ≤ length w
    room = omega (arith, leb-true (t + h.span) 32 ht, H.space)

    far : (s : ℕ) (b : Bool) → apart s (σ s).span t h.span ≡ b → Holds (store w t y) s (cond b (σ s) unknown)
    far s false a = holds_none (store w t y) s
    far s true a =
        let H' = H.holds s in
        record {
          sized = H'.sized;
          within = H'.within;
          reads = slot_other (σ s).order w s t y (places (leb (s + (σ s).span) t) refl a) ∙ H'.reads;
        }
      where
        places : (b : Bool) → leb (s + (σ s).span) t ≡ b → cond b true (leb (t + h.span) s) ≡ true → Apart (256 * s) ((σ s).order * (σ s).order) (256 * t) (length y)
        places true u v = inl (omega (arith, leb-true (s + (σ s).span) t u, (H.holds s).within))
        places false u v = inr (omega (arith, leb-true (t + h.span) s v, l, k))

    go : (s : ℕ) (b : Bool) → eqb s t ≡ b → Holds (store w t y) s (cond b h (cond (apart s (σ s).span t h.span) (σ s) unknown))
    go s true p = record { sized = l; within = k; reads = rw (eqb-true s t p) (slot_store h.order w t y l room) }
    go s false p = far s (apart s (σ s).span t h.span) refl

-- A call whose contract says what it changes: what reaches into a slot of ss is forgotten, and the rest is held as before.
pub step_call : {S : ℕ → Bool} {w₀ w w' : List Float} {σ : ℕ → Held} (ss : List ℕ)
    → State S w₀ w σ → Only (member ss) w w' → ((s : ℕ) → S s ≡ false → member ss s ≡ false)
    → State S w₀ w' (λ s. cond (picks (λ t. not (member ss t)) s (σ s).span) (σ s) unknown)
step_call {S} {w₀} {w} {w'} {σ} ss H o p = record {
  space = rw o.long H.space;
  only = only_trans H.only (only_more p o);
  holds = λ s. go s (picks (λ t. not (member ss t)) s (σ s).span) refl;
}
  where
    go : (s : ℕ) (b : Bool) → picks (λ t. not (member ss t)) s (σ s).span ≡ b → Holds w' s (cond b (σ s) unknown)
    go s false q = holds_none w' s
    go s true q =
        let H' = H.holds s in
        record { sized = H'.sized; within = H'.within; reads = slot_only (σ s).order (member ss) w w' s (σ s).span o H'.within q ∙ H'.reads }

-- the slots of a list are among those that S picks: the test computes at numerals
abbrev pub among : (ℕ → Bool) → List ℕ → Bool
among S [] = true
among S (t ∷ ts) = cond (S t) (among S ts) false

pub member_among : (S : ℕ → Bool) (ss : List ℕ) → among S ss ≡ true → (s : ℕ) → S s ≡ false → member ss s ≡ false
member_among S [] p s e = refl
member_among S (t ∷ ts) p s e = go (S t) refl p (λ q. member_among S ts q s e)
  where
    go : (b : Bool) → S t ≡ b → cond b (among S ts) false ≡ true → (among S ts ≡ true → member ts s ≡ false) → member (t ∷ ts) s ≡ false
    go true q p' rest = rw (ne_eqb s t (λ r. true≢false (sym q ∙ ap S (sym r) ∙ e))) (rest p')
    go false q p' rest = absurd (true≢false (sym p'))

-- ---- a step for each kernel. The tests and the orders compute where the slots are numerals, so that `refl` proves each

module _ {S : ℕ → Bool} {w₀ w w' : List Float} {σ : ℕ → Held} (n : ℕ) (small : n ≤ 16) where
  step_one : (t : ℕ) (x y : List Float) → State S w₀ w σ → w' ≡ store w t x → x ≡ y → length y ≡ n * n → leb (t + 1) 32 ≡ true → picks S t 1 ≡ true → State S w₀ w' (upd σ t (held n y))
  step_one t x y H e q l = step_store t x (held n y) H e q l (omega (arith, square_le n small))

  pub step_mult : (f : Format) (a b c : ℕ) → State S w₀ w σ → w' ≡ store w c (mul_m f n (slot n w a) (slot n w b)) → (σ a).order ≡ n → (σ b).order ≡ n → leb (c + 1) 32 ≡ true → picks S c 1 ≡ true
      → State S w₀ w' (upd σ c (held n (mul_m f n (σ a).entries (σ b).entries)))
  step_mult f a b c H e p q =
      step_one c (mul_m f n (slot n w a) (slot n w b)) (mul_m f n (σ a).entries (σ b).entries) H e (λ i. mul_m f n (held_at a n H p i) (held_at b n H q i)) (length-mul_m f n (σ a).entries (σ b).entries)

  pub step_copy : (a c : ℕ) → State S w₀ w σ → w' ≡ store w c (slot n w a) → (σ a).order ≡ n → leb (c + 1) 32 ≡ true → picks S c 1 ≡ true → State S w₀ w' (upd σ c (held n (σ a).entries))
  step_copy a c H e p = step_one c (slot n w a) (σ a).entries H e (held_at a n H p) (ap length (sym (held_at a n H p)) ∙ length-slot n w a)

  pub step_copy_in : (c : ℕ) (x : List Float) → State S w₀ w σ → w' ≡ store w c x → length x ≡ n * n → leb (c + 1) 32 ≡ true → picks S c 1 ≡ true → State S w₀ w' (upd σ c (held n x))
  step_copy_in c x H e l = step_one c x x H e refl l

  pub step_identity : (c : ℕ) → State S w₀ w σ → w' ≡ store w c (identity_m n) → leb (c + 1) 32 ≡ true → picks S c 1 ≡ true → State S w₀ w' (upd σ c (held n (identity_m n)))
  step_identity c H e = step_one c (identity_m n) (identity_m n) H e refl (length-identity_m n)

  pub step_accumulate : (f : Format) (by : Float) (c p : ℕ) → State S w₀ w σ → w' ≡ store w c (add_multiple_m f n by (slot n w p) (slot n w c)) → (σ p).order ≡ n → (σ c).order ≡ n
      → leb (c + 1) 32 ≡ true → picks S c 1 ≡ true → State S w₀ w' (upd σ c (held n (add_multiple_m f n by (σ p).entries (σ c).entries)))
  step_accumulate f by c p H e u v =
      step_one c (add_multiple_m f n by (slot n w p) (slot n w c)) (add_multiple_m f n by (σ p).entries (σ c).entries) H e (λ i. add_multiple_m f n by (held_at p n H u i) (held_at c n H v i))
      (length-add_multiple_m f n by (σ p).entries (σ c).entries)

  pub step_zero : (c : ℕ) → State S w₀ w σ → w' ≡ store w c (zero_m n) → leb (c + 1) 32 ≡ true → picks S c 1 ≡ true → State S w₀ w' (upd σ c (held n (zero_m n)))
  step_zero c H e = step_one c (zero_m n) (zero_m n) H e refl (length-zero_m n)

  -- `times`, and `scale` with c the same slot
  pub step_times : (f : Format) (by : Float) (a c : ℕ) → State S w₀ w σ → w' ≡ store w c (times_m f n by (slot n w a)) → (σ a).order ≡ n
      → leb (c + 1) 32 ≡ true → picks S c 1 ≡ true → State S w₀ w' (upd σ c (held n (times_m f n by (σ a).entries)))
  step_times f by a c H e u = step_one c (times_m f n by (slot n w a)) (times_m f n by (σ a).entries) H e (λ i. times_m f n by (held_at a n H u i)) (length-times_m f n by (σ a).entries)

  pub step_add : (f : Format) (c a : ℕ) → State S w₀ w σ → w' ≡ store w c (add_m f n (slot n w c) (slot n w a)) → (σ c).order ≡ n → (σ a).order ≡ n
      → leb (c + 1) 32 ≡ true → picks S c 1 ≡ true → State S w₀ w' (upd σ c (held n (add_m f n (σ c).entries (σ a).entries)))
  step_add f c a H e u v = step_one c (add_m f n (slot n w c) (slot n w a)) (add_m f n (σ c).entries (σ a).entries) H e (λ i. add_m f n (held_at c n H u i) (held_at a n H v i)) (length-add_m f n (σ c).entries (σ a).entries)

  pub step_mean : (f : Format) (a b c : ℕ) → State S w₀ w σ → w' ≡ store w c (mean_m f n (slot n w a) (slot n w b)) → (σ a).order ≡ n → (σ b).order ≡ n
      → leb (c + 1) 32 ≡ true → picks S c 1 ≡ true → State S w₀ w' (upd σ c (held n (mean_m f n (σ a).entries (σ b).entries)))
  step_mean f a b c H e u v = step_one c (mean_m f n (slot n w a) (slot n w b)) (mean_m f n (σ a).entries (σ b).entries) H e (λ i. mean_m f n (held_at a n H u i) (held_at b n H v i)) (length-mean_m f n (σ a).entries (σ b).entries)

  pub step_deduct : (f : Format) (by : Float) (c p : ℕ) → State S w₀ w σ → w' ≡ store w c (deduct_m f n by (slot n w p) (slot n w c)) → (σ p).order ≡ n → (σ c).order ≡ n
      → leb (c + 1) 32 ≡ true → picks S c 1 ≡ true → State S w₀ w' (upd σ c (held n (deduct_m f n by (σ p).entries (σ c).entries)))
  step_deduct f by c p H e u v = step_one c (deduct_m f n by (slot n w p) (slot n w c)) (deduct_m f n by (σ p).entries (σ c).entries) H e (λ i. deduct_m f n by (held_at p n H u i) (held_at c n H v i)) (length-deduct_m f n by (σ p).entries (σ c).entries)

  pub step_difference_quotient : (f : Format) (h : Float) (c b : ℕ) → State S w₀ w σ → w' ≡ store w c (difference_quotient_m f n h (slot n w c) (slot n w b)) → (σ c).order ≡ n → (σ b).order ≡ n
      → leb (c + 1) 32 ≡ true → picks S c 1 ≡ true → State S w₀ w' (upd σ c (held n (difference_quotient_m f n h (σ c).entries (σ b).entries)))
  step_difference_quotient f h c b H e u v = step_one c (difference_quotient_m f n h (slot n w c) (slot n w b)) (difference_quotient_m f n h (σ c).entries (σ b).entries) H e (λ i. difference_quotient_m f n h (held_at c n H u i) (held_at b n H v i)) (length-difference_quotient_m f n h (σ c).entries (σ b).entries)

  pub step_minus_identity : (f : Format) (a : ℕ) → State S w₀ w σ → w' ≡ store w a (minus_identity_m f n (slot n w a)) → (σ a).order ≡ n
      → leb (a + 1) 32 ≡ true → picks S a 1 ≡ true → State S w₀ w' (upd σ a (held n (minus_identity_m f n (σ a).entries)))
  step_minus_identity f a H e u = step_one a (minus_identity_m f n (slot n w a)) (minus_identity_m f n (σ a).entries) H e (λ i. minus_identity_m f n (held_at a n H u i)) (length-minus_identity_m f n (σ a).entries)

  pub step_transpose : (a c : ℕ) → State S w₀ w σ → w' ≡ store w c (transpose_m n (slot n w a)) → (σ a).order ≡ n
      → leb (c + 1) 32 ≡ true → picks S c 1 ≡ true → State S w₀ w' (upd σ c (held n (transpose_m n (σ a).entries)))
  step_transpose a c H e u = step_one c (transpose_m n (slot n w a)) (transpose_m n (σ a).entries) H e (λ i. transpose_m n (held_at a n H u i)) (length-transpose_m n (σ a).entries)

  pub step_diagonal : (d : Float) (c : ℕ) → State S w₀ w σ → w' ≡ store w c (diagonal_m n d) → leb (c + 1) 32 ≡ true → picks S c 1 ≡ true → State S w₀ w' (upd σ c (held n (diagonal_m n d)))
  step_diagonal d c H e = step_one c (diagonal_m n d) (diagonal_m n d) H e refl (length-diagonal_m n d)

-- ---- a state that is known at some slots, as a loop's invariant lists them

abbrev pub listed : List (ℕ × Held) → ℕ → Held
listed [] s = unknown
listed (t ∷ ts) s = cond (eqb s t.0) t.1 (listed ts s)

abbrev pub AllHold : List Float → List (ℕ × Held) → Type 0
AllHold w [] = Unit {0}
AllHold w (t ∷ ts) = Holds w t.0 t.1 × AllHold w ts

holds_listed : (w : List Float) (ts : List (ℕ × Held)) → AllHold w ts → (s : ℕ) → Holds w s (listed ts s)
holds_listed w [] h s = holds_none w s
holds_listed w (t ∷ ts) h s = go (eqb s t.0) refl (holds_listed w ts h.1 s)
  where
    go : (b : Bool) → eqb s t.0 ≡ b → Holds w s (listed ts s) → Holds w s (cond b t.1 (listed ts s))
    go true q r = rw (eqb-true s t.0 q) h.0
    go false q r = r

pub state_listed : {S : ℕ → Bool} {w₀ w : List Float} {σ : ℕ → Held} (ts : List (ℕ × Held)) → State S w₀ w σ → AllHold w ts → State S w₀ w (listed ts)
state_listed {w = w} ts H a = record { space = H.space; only = H.only; holds = holds_listed w ts a }

-- a slot holds what equals what it holds
pub holds_as : {w : List Float} {s n : ℕ} {x y : List Float} → Holds w s (held n x) → x ≡ y → Holds w s (held n y)
holds_as {w} {s} {n} H e = rw e at H
