-- A list that is filled row by row: blocks side by side, and one row of them below the other. Assumes nothing.
use Prim.Native.Nat.{ℕ, zero, suc, ◌+◌, ◌*◌, ◌/◌, ◌%◌, ◌≤◌, ◌<◌}
use mathlib.Core.Path.{◌≡◌, refl, sym, ap, ap₂, ◌∙◌}
use mathlib.Core.List.{List, ◌++◌, append-nil, append_assoc}
use native.Mathlib.Nat.{add-zero, add-suc, zero-mul, add-mul, mul-le-mul_right, div-add-mod'}
use native.Mathlib.Omega.{arith}
use lib.Arith.{digits_div, digits_mod}
use lib.ListN.{length}
use lib.Ieee.{Float, nan}
use Rattle.arithmetic_matrices.specs.Matrix.{tab, grid, at, item, put}
use Rattle.arithmetic_matrices.proofs.MatrixLaws.{tab_is, length-grid, at-grid, grid_suc, grid_cong, row_end, row_lt, column_lt, more_rows}
use Rattle.arithmetic_matrices.proofs.PartLaws.{length-put, put-append, put_all, put_no_row, put_grid_more}
use Rattle.arithmetic_matrices.specs.Kernels.{block_row}

-- ---- matrices

-- a matrix as one table
grid_tab : (r c : ℕ) (F : ℕ → ℕ → Float) → grid r c F ≡ tab (r * c) (λ x. F (x / c) (x % c))
unfolding at
grid_tab r c F =
    tab_is nan (r * c) (λ x. F (x / c) (x % c)) (grid r c F) (length-grid r c F)
    (λ x h. ap (item (grid r c F)) (sym (div-add-mod' x c)) ∙ at-grid r c F (x / c) (x % c) (row_lt r c x h) (column_lt r c x h))

-- r more rows
grid_append : (k r c : ℕ) (F : ℕ → ℕ → Float) → grid (k + r) c F ≡ grid k c F ++ grid r c (λ i. F (k + i))
unfolding grid
grid_append k zero c F = rw add-zero (sym (append-nil (grid k c F)))
grid_append k (suc r) c F =
    rw add-suc
    (grid_suc (k + r) c F
    ∙ ap (λ (l : List Float). l ++ tab c (F (k + r))) (grid_append k r c F)
    ∙ append_assoc (grid k c F) (grid r c (λ i. F (k + i))) (tab c (F (k + r)))
    ∙ ap (λ (l : List Float). grid k c F ++ l) (sym (grid_suc r c (λ i. F (k + i)))))

-- ---- a list that is filled row by row

-- v is w with the first r of m rows of c numbers, those of G, from place o on, and z is the place after them
pub record Filled (w : List Float) (o m c : ℕ) (G : ℕ → ℕ → Float) (z : ℕ) (v : List Float) (r : ℕ) : Type 0 where
  pub within : r ≤ m
  pub long : length v ≡ length w
  pub place : z ≡ o + r * c
  pub list : v ≡ put w o (grid r c G)

pub filled_start : {w : List Float} {o m c : ℕ} {G : ℕ → ℕ → Float} → Filled w o m c G o w 0
filled_start {w} {o} {m} {c} {G} = record { within = omega arith; long = refl; place = omega (arith, zero-mul c); list = put_no_row w o c G }

module _ {w : List Float} {o m c : ℕ} {G : ℕ → ℕ → Float} {z : ℕ} {v : List Float} {r : ℕ} (s : Filled w o m c G z v r) where
  -- the next row lies within the m rows
  pub filled_inside : r < m → z + c ≤ o + m * c
  filled_inside h = omega (arith, s.place, row_end r m c h)

  pub filled_turn : {v' : List Float} → r < m → v' ≡ put v z (tab c (G r)) → Filled w o m c G (z + c) v' (r + 1)
  filled_turn {v'} h e = record {
    within = omega arith;
    long = ap length e ∙ length-put v z (tab c (G r)) ∙ s.long;
    place = omega (arith, s.place, more_rows r c);
    list = e ∙ ap₂ (λ (l : List Float) (x : ℕ). put l x (tab c (G r))) s.list s.place ∙ put_grid_more w o r c G;
  }

  pub filled_end : m ≤ r → v ≡ put w o (grid m c G)
  filled_end h = let e : r ≡ m = omega (arith, s.within) in rw e at s.list

  -- k rows more
  filled_rows : {v' : List Float} (k : ℕ) → r + k ≤ m → v' ≡ put v z (grid k c (λ i. G (r + i))) → Filled w o m c G (z + k * c) v' (r + k)
  filled_rows {v'} k h e = record {
    within = h;
    long = ap length e ∙ length-put v z (grid k c (λ i. G (r + i))) ∙ s.long;
    place = omega (arith, s.place, add-mul r k c);
    list =
        e
        ∙ ap₂ (λ (l : List Float) (x : ℕ). put l x (grid k c (λ i. G (r + i)))) s.list s.place
        ∙ ap (λ (x : ℕ). put (put w o (grid r c G)) (o + x) (grid k c (λ i. G (r + i)))) (sym (length-grid r c G))
        ∙ sym (put-append w o (grid r c G) (grid k c (λ i. G (r + i))))
        ∙ ap (put w o) (sym (grid_append r k c G));
  }

-- ---- blocks

-- all parts of a row of blocks are written: block (i, j) has entry e i j k l at (k, l)
pub parts_end : {w : List Float} {o m q : ℕ} (e : ℕ → ℕ → ℕ → ℕ → Float) (i k : ℕ) {z : ℕ} {v : List Float} {r : ℕ} → Filled w o m q (λ j. e i j k) z v r → m ≤ r
    → v ≡ put w o (tab (m * q) (block_row q e i k))
unfolding block_row
parts_end {w} {o} {m} {q} e i k s h = filled_end s h ∙ ap (put w o) (grid_tab m q (λ j. e i j k))

-- row r of all blocks
abbrev pub all_rows : (ℕ → ℕ → ℕ → ℕ → Float) → ℕ → ℕ → ℕ → ℕ → Float
all_rows e p q r = block_row q e (r / p) (r % p)

-- the first i of m rows of blocks are written, n blocks of p rows and q columns in each; z is the place after them
pub record Blocks (w : List Float) (m n p q : ℕ) (e : ℕ → ℕ → ℕ → ℕ → Float) (z : ℕ) (v : List Float) (i : ℕ) : Type 0 where
  pub within : i ≤ m
  pub rows : Filled w 0 (m * p) (n * q) (all_rows e p q) z v (i * p)

pub blocks_start : {w : List Float} {m n p q : ℕ} {e : ℕ → ℕ → ℕ → ℕ → Float} → Blocks w m n p q e 0 w 0
blocks_start = record { within = omega arith; rows = rw zero-mul filled_start }

module _ {w : List Float} {m n p q : ℕ} {e : ℕ → ℕ → ℕ → ℕ → Float} {z : ℕ} {v : List Float} {i : ℕ} (s : Blocks w m n p q e z v i) where
  -- the next row of blocks lies within the m rows of blocks
  pub blocks_inside : i < m → z + p * (n * q) ≤ m * p * (n * q)
  blocks_inside h = omega (arith, s.rows.place, add-mul (i * p) p (n * q), mul-le-mul_right (n * q) (row_end i m p h))

  pub blocks_turn : {v' : List Float} → i < m → v' ≡ put v z (grid p (n * q) (block_row q e i)) → Blocks w m n p q e (z + p * (n * q)) v' (i + 1)
  blocks_turn {v'} h t = record {
    within = omega arith;
    rows =
        rw more_rows
        (filled_rows s.rows p (row_end i m p h)
        (t ∙ ap (put v z) (grid_cong p (n * q) (block_row q e i) (λ k. all_rows e p q (i * p + k))
        (λ k c hk hc. ap₂ (λ (x y : ℕ). block_row q e x y c) (sym (digits_div i hk)) (sym (digits_mod i hk))))));
  }

  pub blocks_end : m ≤ i → length w ≡ m * p * (n * q) → v ≡ grid (m * p) (n * q) (all_rows e p q)
  blocks_end h l =
      filled_end s.rows (mul-le-mul_right p h)
      ∙ put_all w (grid (m * p) (n * q) (all_rows e p q)) (length-grid (m * p) (n * q) (all_rows e p q) ∙ sym l)
