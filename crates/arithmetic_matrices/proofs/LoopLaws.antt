-- What the loops of the kernels keep, as records, each with its laws: start, one turn, end. Assumes nothing.
use Prim.Native.Nat.{ℕ, ◌+◌, ◌-◌, ◌*◌, ◌<◌, ◌≤◌}
use native.Mathlib.Nat.{zero-add, zero-mul, mul-le-mul_right}
use native.Mathlib.Numerals.{add-one}
use native.Mathlib.Omega.{arith}
use mathlib.Core.Path.{◌≡◌, refl, sym, ◌∙◌, ap}
use mathlib.Core.List.{List}
use mathlib.Core.Bool.{false}
use lib.Dec.{eqb}
use lib.ListN.{length, set, take, drop, length-set}
use borrow.Rule.Slice.PartMut.{put_mid}
use lib.Ieee.{Float, Format, nan, sub}
use Rattle.arithmetic_floats.specs.Float.{one}
use Rattle.arithmetic_matrices.specs.Matrix.{tab, grid, item, at, part, put, Apart}
use Rattle.arithmetic_matrices.specs.Product.{minus_identity_entry, minus_identity_m}
use Rattle.arithmetic_matrices.specs.Workspace.{slot, store, Room}
use Rattle.arithmetic_matrices.specs.Kernels.{put_rows}
use Rattle.arithmetic_matrices.proofs.MatrixLaws.{square_le, length-tab, length-grid, index_lt, row_end, more_rows}
use Rattle.arithmetic_matrices.proofs.PartLaws.{length_part, length-put, lent, returned, get_d_part, at_part, put_no_row, get_or-put_apart, put-none, put-store, put_all, read_apart, read_next}
use Rattle.arithmetic_matrices.proofs.ProductLaws.{minus_identity_m_part, minus_identity_row}
use Rattle.arithmetic_matrices.proofs.Slots.{slots_apart, room_within}
use Rattle.arithmetic_matrices.proofs.FilledLaws.{Filled, filled_start, filled_turn, filled_end}

-- ---- numbers that are stored one after the other

-- w is w₀ with F 0, .., F (k - 1) from place y on; there are m numbers to store
pub record Stored (y m : ℕ) (F : ℕ → Float) (w₀ w : List Float) (k : ℕ) : Type 0 where
  pub within : k ≤ m
  pub long : length w ≡ length w₀
  pub list : w ≡ put w₀ y (tab k F)

pub stored_start : (y m : ℕ) (F : ℕ → Float) (w₀ : List Float) → Stored y m F w₀ w₀ 0
stored_start y m F w₀ = record { within = omega arith; long = refl; list = put-none w₀ y F }

pub stored_turn : {y m : ℕ} {F : ℕ → Float} {w₀ w : List Float} {k : ℕ} {v : Float} → Stored y m F w₀ w k → k < m → v ≡ F k → Stored y m F w₀ (set w (y + k) v) (k + 1)
stored_turn {y} {m} {F} {w₀} {w} {k} {v} s h e = record {
  within = omega arith;
  long = length-set w (y + k) v ∙ s.long;
  list = rw s.list (put-store w₀ y k F v e);
}

pub stored_end : {y m : ℕ} {F : ℕ → Float} {w₀ w : List Float} {k : ℕ} → Stored y m F w₀ w k → m ≤ k → w ≡ put w₀ y (tab m F)
stored_end {y} {m} {F} {w₀} {w} {k} s h = let e : k ≡ m = omega arith in rw e at s.list

-- a number of a part that is apart from what is stored
pub stored_apart : {y m : ℕ} {F : ℕ → Float} {w₀ w : List Float} {k x l i : ℕ} → Stored y m F w₀ w k → Apart x l y m → i < l → item w (x + i) ≡ item w₀ (x + i)
stored_apart {y} {m} {F} {w₀} {w} {k} {x} {l} {i} s a h = rw s.list (get_or-put_apart w₀ y m (tab k F) x l i nan a (omega (arith, s.within, length-tab k F)) h)

-- the turn where the places begin at 0, and the code has no sum
pub stored_turn0 : {m : ℕ} {F : ℕ → Float} {w₀ w : List Float} {k : ℕ} {v : Float} → Stored 0 m F w₀ w k → k < m → v ≡ F k → Stored 0 m F w₀ (set w k v) (k + 1)
stored_turn0 s h e = rw zero-add at (stored_turn s h e)

-- all of a list is stored
pub stored_all : {m : ℕ} {F : ℕ → Float} {w₀ w : List Float} {k : ℕ} → Stored 0 m F w₀ w k → m ≤ k → length w₀ ≡ m → w ≡ tab m F
stored_all {m} {F} {w₀} s h l = stored_end s h ∙ put_all w₀ (tab m F) (length-tab m F ∙ sym l)

-- ---- the entries of a matrix in a slot

-- a matrix of the orders that a slot has room for has at most 256 entries
pub room_few : {n : ℕ} {w : List Float} → Room n w → n * n ≤ 256
room_few {n} r = square_le n r.order

-- the first k entries of slot c are those of F, and nothing else of w₀ is changed
pub record SlotEntries (n c : ℕ) (F : ℕ → Float) (w₀ w : List Float) (k : ℕ) : Type 0 where
  pub few : n * n ≤ 256
  pub stored : Stored (256 * c) (n * n) F w₀ w k

pub entries_start : {n c : ℕ} {F : ℕ → Float} {w₀ : List Float} → Room n w₀ → SlotEntries n c F w₀ w₀ 0
entries_start {n} {c} {F} {w₀} r = record { few = square_le n r.order; stored = stored_start (256 * c) (n * n) F w₀ }

module _ {n c : ℕ} {F : ℕ → Float} {w₀ w : List Float} {k : ℕ} (s : SlotEntries n c F w₀ w k) where
  pub entries_turn : {v : Float} → k < n * n → v ≡ F k → SlotEntries n c F w₀ (set w (256 * c + k) v) (k + 1)
  entries_turn h e = record { few = s.few; stored = stored_turn s.stored h e }

  pub entries_end : n * n ≤ k → w ≡ store w₀ c (tab (n * n) F)
  unfolding store
  entries_end h = stored_end s.stored h

  -- entry k of slot c before it is written, and of another slot
  pub own_entry : k < n * n → item w (256 * c + k) ≡ item (slot n w₀ c) k
  unfolding slot
  own_entry h = rw s.stored.list (read_next w₀ (256 * c) k F ∙ sym (get_d_part w₀ (256 * c) (n * n) k h))

  pub other_entry : (a : ℕ) → eqb a c ≡ false → k < n * n → item w (256 * a + k) ≡ item (slot n w₀ a) k
  unfolding slot
  other_entry a d h = rw s.stored.list (read_apart w₀ (256 * c) k F (256 * a) (n * n) (slots_apart a c (n * n) (n * n) d s.few s.few) h ∙ sym (get_d_part w₀ (256 * a) (n * n) k h))

-- ---- the rows of a matrix in a slot

-- the first i rows of slot c are those of G, y is the place after them, and nothing else of w₀ is changed
pub record SlotRows (n c : ℕ) (G : ℕ → ℕ → Float) (w₀ w : List Float) (y i : ℕ) : Type 0 where
  pub few : n * n ≤ 256
  pub filled : Filled w₀ (256 * c) n n G y w i

pub slot_rows_start : {n c : ℕ} {G : ℕ → ℕ → Float} {w₀ : List Float} → Room n w₀ → SlotRows n c G w₀ w₀ (256 * c) 0
slot_rows_start r = record { few = room_few r; filled = filled_start }

module _ {n c : ℕ} {G : ℕ → ℕ → Float} {w₀ w : List Float} {y i : ℕ} (s : SlotRows n c G w₀ w y i) where
  pub slot_rows_turn : {w' : List Float} → i < n → w' ≡ put w y (tab n (G i)) → SlotRows n c G w₀ w' (y + n) (i + 1)
  slot_rows_turn h e = record { few = s.few; filled = filled_turn s.filled h e }

  pub slot_rows_end : n ≤ i → w ≡ store w₀ c (grid n n G)
  unfolding store
  slot_rows_end h = filled_end s.filled h

  -- an entry of another slot
  pub other_at : (a p q : ℕ) → eqb a c ≡ false → p < n → q < n → item w (256 * a + (p * n + q)) ≡ at n (slot n w₀ a) p q
  unfolding slot
  other_at a p q d hp hq =
      let l : length (grid i n G) ≤ n * n = omega (arith, length-grid i n G, mul-le-mul_right n s.filled.within) in
      rw s.filled.list
      (get_or-put_apart w₀ (256 * c) (n * n) (grid i n G) (256 * a) (n * n) (p * n + q) nan (slots_apart a c (n * n) (n * n) d s.few s.few) l (index_lt hp hq) ∙ sym (at_part w₀ (256 * a) n n p q hp hq))

-- ---- walks over a matrix of order n at x

-- q is the place of entry (i, j): a walk down column j
pub record Down (x n j q i : ℕ) : Type 0 where
  pub within : i ≤ n
  pub column : j < n
  pub place : q ≡ x + (i * n + j)

pub down_start : {x n j : ℕ} → j < n → Down x n j (x + j) 0
down_start {x} {n} h = record { within = omega arith; column = h; place = omega (arith, zero-mul n) }

module _ {x n j q i : ℕ} (s : Down x n j q i) (h : i < n) where
  pub down_turn : Down x n j (q + n) (i + 1)
  down_turn = record { within = omega arith; column = s.column; place = omega (arith, s.place, more_rows i n) }

  pub down_inside : q < x + n * n
  down_inside = omega (arith, s.place, index_lt h s.column)

-- q is the place of entry (i, i): a walk down the diagonal
pub record Diagonal (x n q i : ℕ) : Type 0 where
  pub within : i ≤ n
  pub place : q ≡ x + (i * n + i)

pub diagonal_start : {x n : ℕ} → Diagonal x n x 0
diagonal_start {x} {n} = record { within = omega arith; place = omega (arith, zero-mul n) }

module _ {x n q i : ℕ} (s : Diagonal x n q i) (h : i < n) where
  pub diagonal_turn : Diagonal x n (q + (n + 1)) (i + 1)
  diagonal_turn = record { within = omega arith; place = omega (arith, s.place, more_rows i n) }

  pub diagonal_inside : q < x + n * n
  diagonal_inside = omega (arith, s.place, index_lt h h)

-- the first i rows of slot a are less the identity, and nothing else of w₀ is changed
pub record LessIdentity (f : Format) (n a : ℕ) (w₀ w : List Float) (q i : ℕ) : Type 0 where
  pub few : n * n ≤ 256
  pub walk : Diagonal (256 * a) n q i
  pub long : length w ≡ length w₀
  pub list : w ≡ put w₀ (256 * a) (grid i n (λ r j. minus_identity_entry f r j (item w₀ (256 * a + (r * n + j)))))

pub less_start : {f : Format} {n a : ℕ} {w₀ : List Float} → Room n w₀ → LessIdentity f n a w₀ w₀ (256 * a) 0
less_start {f} {n} {a} {w₀} r = record { few = room_few r; walk = diagonal_start; long = refl; list = put_no_row w₀ (256 * a) n _ }

module _ {f : Format} {n a : ℕ} {w₀ w : List Float} {q i : ℕ} (s : LessIdentity f n a w₀ w q i) where
  pub less_turn : Room n w₀ → a < 32 → i < n → LessIdentity f n a w₀ (set w q (sub f (item w q) one)) (q + (n + 1)) (i + 1)
  less_turn r b h = record {
    few = s.few;
    walk = diagonal_turn s.walk h;
    long = length-set w q _ ∙ s.long;
    list = rw (s.walk.place, s.list) (minus_identity_row f n w₀ (256 * a) i h (room_within a r b));
  }

  pub less_end : n ≤ i → w ≡ store w₀ a (minus_identity_m f n (slot n w₀ a))
  unfolding slot store
  less_end h = let e : i ≡ n = omega (arith, s.walk.within) in rw (minus_identity_m_part f n w₀ (256 * a)) (rw e at s.list)

-- ---- rows that are copied to places a step apart

-- the first i rows of the n by n matrix src are copied, row r to o + r * step
pub record Placed (o step n : ℕ) (src w₀ w : List Float) (i : ℕ) : Type 0 where
  pub within : i ≤ n
  pub long : length w ≡ length w₀
  pub list : w ≡ put_rows w₀ o step i n (at n src)

pub placed_start : {o step n : ℕ} {src w₀ : List Float} → Placed o step n src w₀ w₀ 0
unfolding put_rows
placed_start = record { within = omega arith; long = refl; list = refl }

pub placed_turn : {o step n : ℕ} {src w₀ w last : List Float} {i : ℕ} → Placed o step n src w₀ w i → i < n → length src ≡ n * n → o + i * step + n ≤ length w₀
    → last ≡ take (i * n + n - i * n) (drop (i * n) src) → Placed o step n src w₀ (put_mid (o + i * step) (o + i * step + n - (o + i * step)) w last) (i + 1)
unfolding put_rows at part
placed_turn {o} {step} {n} {src} {w₀} {w} {last} {i} p h l fits e =
    let row : last ≡ part src (i * n) n = e ∙ lent src (i * n) n (omega (arith, row_end i n n h)) in
    let y : ℕ = o + i * step in
    let back : put_mid y (y + n - y) w last ≡ put w y last = returned w last y n (ap length row ∙ length_part src (i * n) n) (omega (arith, p.long)) in
    record {
      within = omega arith;
      long = ap length back ∙ length-put w y last ∙ p.long;
      list = back ∙ rw (row, p.list, add-one);
    }
