-- Laws of tables, matrices and the places of entries. Assumes nothing.
use Prim.Native.Nat.{ℕ, zero, suc, ◌+◌, ◌*◌, ◌/◌, ◌%◌, ◌≤◌, ◌<◌, suc-le-suc}
use mathlib.Core.Path.{◌≡◌, refl, sym, ap, ◌∙◌}
use mathlib.Core.List.{List, [], ◌∷◌, ◌++◌, append-nil, append_assoc}
use native.Mathlib.Nat.{div-add-mod', mod-lt, div-lt_iff_lt-mul, zero-add, zero-mul, mul-zero, suc-mul, mul-le-mul_right, mul-le-mul, zero-lt-suc, not-suc-le-zero, le_of_suc-le-suc}
use native.Mathlib.Numerals.{add-one}
use native.Mathlib.Omega.{arith}
use lib.Arith.{digits_lt, digits_div, digits_mod}
use lib.ListN.{length, get_or, set, length-append, get_or-append}
use lib.Seq.{ext_get_or, get_or-append-add, get_or-set_same, get_or-set_other}
use lib.Ieee.{Float, nan}
use Rattle.arithmetic_matrices.specs.Matrix.{tab, at, grid, item, column}

-- ---- tables

module _ {A : Type 0} where
  pub length-tab : (k : ℕ) (f : ℕ → A) → length (tab k f) ≡ k
  unfolding tab
  length-tab zero f = refl
  length-tab (suc k) f = ap suc (length-tab k (λ i. f (suc i)))

  pub get_or-tab : (k : ℕ) (f : ℕ → A) (i : ℕ) (d : A) → i < k → get_or (tab k f) i d ≡ f i
  unfolding tab
  get_or-tab zero f i d h = absurd (omega arith)
  get_or-tab (suc k) f zero d h = refl
  get_or-tab (suc k) f (suc i) d h = get_or-tab k (λ n. f (suc n)) i d (omega arith)

  -- two tables are equal where their functions agree in range
  pub tab_cong : (k : ℕ) (f g : ℕ → A) → ((i : ℕ) → i < k → f i ≡ g i) → tab k f ≡ tab k g
  unfolding tab
  tab_cong zero f g e = refl
  tab_cong (suc k) f g e = λ i. e zero (zero-lt-suc k) i ∷ tab_cong k (λ j. f (suc j)) (λ j. g (suc j)) (λ j h. e (suc j) (suc-le-suc h)) i

  -- one more entry
  pub tab_suc : (k : ℕ) (f : ℕ → A) → tab (suc k) f ≡ tab k f ++ (f k ∷ [])
  unfolding tab
  tab_suc zero f = refl
  tab_suc (suc k) f = ap (λ (l : List A). f zero ∷ l) (tab_suc k (λ i. f (suc i)))

  -- a table of a list's own entries
  pub tab-get_or : (xs : List A) (d : A) → tab (length xs) (λ i. get_or xs i d) ≡ xs
  unfolding tab
  tab-get_or [] d = refl
  tab-get_or (x ∷ xs) d = ap (λ (l : List A). x ∷ l) (tab-get_or xs d)

  -- a list is a table where its elements are the table's
  pub tab_is : (d : A) (n : ℕ) (g : ℕ → A) (x : List A) → length x ≡ n → ((i : ℕ) → i < n → get_or x i d ≡ g i) → x ≡ tab n g
  tab_is d n g x e same = ext_get_or d x (tab n g) (e ∙ sym (length-tab n g)) (λ i h. same i (omega arith) ∙ sym (get_or-tab n g i d (omega arith)))

-- ---- places in a matrix

-- entry (i, j) lies within r rows of c columns
pub index_lt : {r c i j : ℕ} → i < r → j < c → i * c + j < r * c
index_lt = digits_lt

-- a row's end is within the matrix
pub row_end : (i r c : ℕ) → i < r → i * c + c ≤ r * c
row_end i r c hi = omega (arith, suc-mul i c, mul-le-mul_right c hi)

-- an order up to 16 has at most 256 entries
pub square_le : (n : ℕ) → n ≤ 16 → n * n ≤ 256
square_le n h = mul-le-mul h h

-- (r + 1) rows of c
pub more_rows : (r c : ℕ) → (r + 1) * c ≡ r * c + c
more_rows r c = rw add-one (suc-mul r c)

-- row q / c and column q % c of an index q within r rows of c columns
pub row_lt : (r c q : ℕ) → q < r * c → q / c < r
row_lt r zero q h = let z : r * zero ≡ 0 = mul-zero r in absurd (omega arith)
row_lt r (suc c) q h = (div-lt_iff_lt-mul {k = suc c} {x = q} {y = r} (omega arith)).1 h

pub column_lt : (r c q : ℕ) → q < r * c → q % c < c
column_lt r zero q h = let z : r * zero ≡ 0 = mul-zero r in absurd (omega arith)
column_lt r (suc c) q h = mod-lt q (omega arith)

-- an index names one entry
pub index_inj : (n : ℕ) {i j r c : ℕ} → j < n → c < n → r * n + c ≡ i * n + j → (r ≡ i) × (c ≡ j)
index_inj n {i} {j} {r} {c} a b e =
    (sym (digits_div r b) ∙ ap (λ q. q / n) e ∙ digits_div i a, sym (digits_mod r b) ∙ ap (λ q. q % n) e ∙ digits_mod i a)

-- ---- matrices

pub length-grid : (r c : ℕ) (f : ℕ → ℕ → Float) → length (grid r c f) ≡ r * c
unfolding grid
length-grid zero c f = sym (zero-mul c)
length-grid (suc r) c f =
    let e : length (grid r c (λ i. f (suc i))) ≡ r * c = length-grid r c (λ i. f (suc i)) in
    let t : length (tab c (f zero)) ≡ c = length-tab c (f zero) in
    omega (arith, length-append (tab c (f zero)) (grid r c (λ i. f (suc i))), suc-mul r c)

get_or-grid : (r c : ℕ) (f : ℕ → ℕ → Float) (i j : ℕ) → i < r → j < c → get_or (grid r c f) (i * c + j) nan ≡ f i j
unfolding grid
get_or-grid zero c f i j hi hj = absurd (not-suc-le-zero hi)
get_or-grid (suc r) c f zero j hi hj =
    rw (zero-mul, zero-add)
    (get_or-append (tab c (f zero)) (grid r c (λ i. f (suc i))) nan j (rw length-tab hj) ∙ get_or-tab c (f zero) j nan hj)
get_or-grid (suc r) c f (suc i) j hi hj =
    let e : suc i * c + j ≡ length (tab c (f zero)) + (i * c + j) = omega (arith, suc-mul i c, length-tab c (f zero)) in
    rw e (get_or-append-add (tab c (f zero)) (grid r c (λ k. f (suc k))) (i * c + j) nan ∙ get_or-grid r c (λ k. f (suc k)) i j (le_of_suc-le-suc hi) hj)

pub at-grid : (r c : ℕ) (f : ℕ → ℕ → Float) (i j : ℕ) → i < r → j < c → at c (grid r c f) i j ≡ f i j
unfolding at
at-grid r c f i j hi hj = get_or-grid r c f i j hi hj

-- two matrices are equal where their entries agree in range
pub grid_cong : (r c : ℕ) (f g : ℕ → ℕ → Float) → ((i j : ℕ) → i < r → j < c → f i j ≡ g i j) → grid r c f ≡ grid r c g
unfolding grid
grid_cong zero c f g e = refl
grid_cong (suc r) c f g e =
    λ i. tab_cong c (f zero) (g zero) (λ j h. e zero j (zero-lt-suc r) h) i
    ++ grid_cong r c (λ k. f (suc k)) (λ k. g (suc k)) (λ k j hk hj. e (suc k) j (suc-le-suc hk) hj) i

-- one more row
pub grid_suc : (r c : ℕ) (f : ℕ → ℕ → Float) → grid (suc r) c f ≡ grid r c f ++ tab c (f r)
unfolding grid
grid_suc zero c f = append-nil (tab c (f zero))
grid_suc (suc r) c f = ap (λ (l : List Float). tab c (f zero) ++ l) (grid_suc r c (λ i. f (suc i))) ∙ sym (append_assoc (tab c (f zero)) (grid r c (λ i. f (suc i))) (tab c (f (suc r))))

-- a list is a grid where its entries are the grid's
pub grid_is : (r c : ℕ) (f : ℕ → ℕ → Float) (l : List Float) → length l ≡ r * c → ((i j : ℕ) → i < r → j < c → at c l i j ≡ f i j) → l ≡ grid r c f
unfolding at
grid_is r c f l e same =
    ext_get_or nan l (grid r c f) (e ∙ sym (length-grid r c f))
    (λ q h.
    let m : q < r * c = omega arith in
    let i<r = row_lt r c q m in
    let j<c = column_lt r c q m in
    ap (item l) (sym (div-add-mod' q c))
    ∙ same (q / c) (q % c) i<r j<c
    ∙ sym (get_or-grid r c f (q / c) (q % c) i<r j<c)
    ∙ ap (item (grid r c f)) (div-add-mod' q c))

pub item-column : (n m : ℕ) (b : List Float) (j i : ℕ) → i < n → item (column n m b j) i ≡ at m b i j
unfolding column
item-column n m b j i h = get_or-tab n _ i nan h

-- ---- a store to an entry

pub at_set_same : (n : ℕ) (l : List Float) (i j : ℕ) (v : Float) → i * n + j < length l → at n (set l (i * n + j) v) i j ≡ v
unfolding at
at_set_same n l i j v h = get_or-set_same l (i * n + j) v nan h

pub at_set_other : (n : ℕ) (l : List Float) (i j : ℕ) (v : Float) (r c : ℕ) → j < n → c < n → (r ≡ i → c ≡ j → ⊥) → at n (set l (i * n + j) v) r c ≡ at n l r c
unfolding at
at_set_other n l i j v r c a b differ =
    get_or-set_other l (i * n + j) (r * n + c) v nan (λ e. let d = index_inj n a b e in differ d.0 d.1)
