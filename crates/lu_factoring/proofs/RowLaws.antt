-- Laws of a right-hand matrix in a workspace that is changed by its rows, every column in the same way (Solve.antt). Assumes nothing.
use Prim.Native.Nat.{ℕ, zero, suc, ◌+◌, ◌-◌, ◌*◌, ◌/◌, ◌%◌, ◌≤◌, ◌<◌}
use mathlib.Core.Path.{◌≡◌, refl, sym, ap, ◌∙◌}
use mathlib.Core.List.{List, [], ◌∷◌}
use mathlib.Core.Logic.{◌⊎◌, inl, inr, ⊎_elim}
use native.Mathlib.Nat.{div-add-mod', zero-add, add-zero, mul-one}
use native.Mathlib.Omega.{arith}
use lib.ListN.{length, set, length-set}
use lib.Seq.{ext_get_or, get_or-set_same, get_or-set_other, set-set, set_comm}
use lib.Ieee.{Float, nan}
use Rattle.arithmetic_matrices.specs.Matrix.{tab, at, grid, item, column, part, put, Apart}
use Rattle.arithmetic_floats.proofs.Order.{split, same_or_not}
use Rattle.arithmetic_matrices.proofs.MatrixLaws.{length-tab, get_or-tab, tab_cong, tab_is, length-grid, at-grid, grid_cong, grid_is, item-column, index_lt, row_end, row_lt, column_lt}
use Rattle.arithmetic_matrices.proofs.PartLaws.{length_part, get_d_part, at_part, length-put, put_all, put-part, put-put, part_put, part_put_apart, apart_sym, put_tab_more, get_or-put_before, get_or-put_after, get_or-put_in, read_apart, read_next}
use Rattle.lu_factoring.specs.Lu.{exchange, swap_rows}
use Rattle.lu_factoring.specs.Kernels.{each_column}
use Rattle.lu_factoring.specs.Solve.{swap_items}
use Rattle.lu_factoring.proofs.LuLaws.{exchange_in, exchange_first, exchange_second, exchange_other}

-- ---- stores to a list with a part replaced

-- a store apart from a part that is replaced
set_put_apart : (w : List Float) (y : ℕ) (xs : List Float) (q : ℕ) (v : Float) → (q < y) ⊎ (y + length xs ≤ q) → set (put w y xs) q v ≡ put (set w q v) y xs
unfolding put
set_put_apart w y [] q v h = refl
set_put_apart w y (a ∷ xs) q v h =
    set_put_apart (set w y a) (suc y) xs q v (⊎_elim (λ p. inl (omega arith)) (λ p. inr (omega arith)) h)
    ∙ ap (λ (l : List Float). put l (suc y) xs) (set_comm w y q a v (λ e. ⊎_elim (λ p. omega arith) (λ p. omega arith) h))

-- a store within the part
pub set_put_in : (w : List Float) (x : ℕ) (xs : List Float) (i : ℕ) (v : Float) → i < length xs → set (put w x xs) (x + i) v ≡ put w x (set xs i v)
unfolding put
set_put_in w x [] i v h = absurd (omega arith)
set_put_in w x (a ∷ xs) zero v h = rw add-zero (set_put_apart (set w x a) (suc x) xs x v (inl (omega arith)) ∙ ap (λ (l : List Float). put l (suc x) xs) (set-set w x a v))
set_put_in w x (a ∷ xs) (suc i) v h = let e : x + suc i ≡ suc x + i = omega arith in rw e (set_put_in (set w x a) (suc x) xs i v (omega arith))

-- a part of w₀ is changed in steps: it is M in w, and N in w1 after one step more
pub part_turn : (x c : ℕ) (w₀ w w1 M N : List Float) (g : List Float → List Float) → x + c ≤ length w₀ → length M ≡ c → length N ≡ c → w ≡ put w₀ x M → w1 ≡ put w x (g (part w x c)) → g M ≡ N
    → w1 ≡ put w₀ x N
part_turn x c w₀ w w1 M N g room size long e e1 turn =
    e1
    ∙ (λ i. put (e i) x (g ((ap (λ (v : List Float). part v x c) e ∙ part_put w₀ x M c size room) i)))
    ∙ ap (put (put w₀ x M) x) turn
    ∙ put-put w₀ x M N (size ∙ sym long) (omega arith)

-- and a part apart from it is as it was
pub part_kept : (o d x c : ℕ) (w₀ w M : List Float) → Apart o d x c → length M ≡ c → w ≡ put w₀ x M → part w o d ≡ part w₀ o d
part_kept o d x c w₀ w M apart size e = ap (λ (v : List Float). part v o d) e ∙ part_put_apart w₀ x c M o d apart (omega arith)

-- two parts change places: the first j numbers, and one more
swap_part_more : (w : List Float) (x y m j : ℕ) (u : List Float) → Apart x m y m → j < m → u ≡ put (put w x (part w y j)) y (part w x j)
    → set (set u (x + j) (item u (y + j))) (y + j) (item u (x + j)) ≡ put (put w x (part w y (j + 1))) y (part w x (j + 1))
unfolding part
swap_part_more w x y m j u h b e =
    rw (e, to_y, to_x)
    (ap (λ (l : List Float). set l (y + j) (X j)) (set_put_apart U y (tab j X) (x + j) (Y j) gap ∙ ap (λ (l : List Float). put l y (tab j X)) (put_tab_more w x j Y))
    ∙ put_tab_more (put w x (tab (j + 1) Y)) y j X)
  where
    X : ℕ → Float
    X i = item w (x + i)

    Y : ℕ → Float
    Y i = item w (y + i)

    U : List Float
    U = put w x (tab j Y)

    to_y : item (put U y (tab j X)) (y + j) ≡ Y j
    to_y = read_next U y j X ∙ read_apart w x j Y y m (apart_sym x m y m h) b

    to_x : item (put U y (tab j X)) (x + j) ≡ X j
    to_x = read_apart U y j X x m h b ∙ read_next w x j Y

    gap : (x + j < y) ⊎ (y + length (tab j X) ≤ x + j)
    gap = ⊎_elim (λ p. inl (omega arith)) (λ p. inr (omega (arith, length-tab j X))) h

-- what the loop keeps: w is w₀ with the first j of the m numbers at x and at y changed places
pub record Swapped (x y m : ℕ) (w₀ w : List Float) (j : ℕ) : Type 0 where
  pub within : j ≤ m
  pub long : length w ≡ length w₀
  pub list : w ≡ put (put w₀ x (part w₀ y j)) y (part w₀ x j)

pub swapped_start : (x y m : ℕ) (w₀ : List Float) → Swapped x y m w₀ w₀ 0
unfolding put part tab
swapped_start x y m w₀ = record { within = omega arith; long = refl; list = refl }

pub swapped_turn : {x y m : ℕ} {w₀ w : List Float} {j : ℕ} → Swapped x y m w₀ w j → Apart x m y m → j < m
    → Swapped x y m w₀ (set (set w (x + j) (item w (y + j))) (y + j) (item w (x + j))) (j + 1)
swapped_turn {x} {y} {m} {w₀} {w} {j} s a h = record {
  within = omega arith;
  long = simp length-set s.long;
  list = swap_part_more w₀ x y m j w a h s.list;
}

-- the same turn over any numbers that are seen as floats
pub seen_swapped : {A : Type 0} (float : A → Float) (floats : List A → List Float) {x y m : ℕ} {w₀ : List Float} (w : List A) {j : ℕ} (a b : A)
    → ((l : List A) (i : ℕ) (v : A) → floats (set l i v) ≡ set (floats l) i (float v))
    → Swapped x y m w₀ (floats w) j → Apart x m y m → j < m → float a ≡ item (floats w) (x + j) → float b ≡ item (floats w) (y + j)
    → Swapped x y m w₀ (floats (set (set w (x + j) b) (y + j) a)) (j + 1)
seen_swapped float floats {x} {y} w {j} a b law s apart h p q =
    rw (law (set w (x + j) b) (y + j) a, law w (x + j) b, p, q) (swapped_turn s apart h)

pub swapped_end : {x y m : ℕ} {w₀ w : List Float} {j : ℕ} → Swapped x y m w₀ w j → m ≤ j → w ≡ put (put w₀ x (part w₀ y m)) y (part w₀ x m)
swapped_end {m = m} {j = j} s h = let e : j ≡ m = omega arith in rw e at s.list

-- ---- every column changed

length-column : (n m : ℕ) (b : List Float) (c : ℕ) → length (column n m b c) ≡ n
unfolding column
length-column n m b c = length-tab n _

length-each : (n m : ℕ) (g : List Float → List Float) (b : List Float) → length (each_column n m g b) ≡ n * m
unfolding each_column
length-each n m g b = length-grid n m _

-- column c of the changed matrix
column_each : (n m : ℕ) (g : List Float → List Float) (b : List Float) (c : ℕ) → c < m → length (g (column n m b c)) ≡ n → column n m (each_column n m g b) c ≡ g (column n m b c)
unfolding each_column column
column_each n m g b c h size = sym (tab_is nan n _ (g (column n m b c)) size (λ i u. sym (at-grid n m _ i c u h)))

-- one change after another
each_each : (n m : ℕ) (g h k : List Float → List Float) (b : List Float) → ((l : List Float) → length l ≡ n → length (h l) ≡ n) → ((l : List Float) → length l ≡ n → g (h l) ≡ k l)
    → each_column n m g (each_column n m h b) ≡ each_column n m k b
unfolding each_column
each_each n m g h k b size same =
    grid_cong n m _ _
    (λ r c u v.
    let l : length (column n m b c) ≡ n = length-column n m b c in
    ap (λ (a : List Float). item (g a) r) (column_each n m h b c v (size (column n m b c) l)) ∙ ap (λ (a : List Float). item a r) (same (column n m b c) l))

each_same : (n m : ℕ) (g : List Float → List Float) (b : List Float) → length b ≡ n * m → ((l : List Float) → length l ≡ n → g l ≡ l) → b ≡ each_column n m g b
unfolding each_column
each_same n m g b size same =
    grid_is n m _ b size (λ r c u v. sym (ap (λ (a : List Float). item a r) (same (column n m b c) (length-column n m b c)) ∙ item-column n m b c r u))

pub each_cong : (n m : ℕ) (g h : List Float → List Float) (b : List Float) → ((l : List Float) → length l ≡ n → g l ≡ h l) → each_column n m g b ≡ each_column n m h b
unfolding each_column
each_cong n m g h b same = grid_cong n m _ _ (λ r c u v. ap (λ (a : List Float). item a r) (same (column n m b c) (length-column n m b c)))

-- a matrix of one column is that column
pub each_one : (w : List Float) (x n : ℕ) (g : List Float → List Float) → length (g (part w x n)) ≡ n → put w x (g (part w x n)) ≡ put w x (each_column n 1 g (part w x (n * 1)))
unfolding each_column column part at
each_one w x n g size =
    ap (put w x)
    (grid_is n 1 _ (g (part w x n)) (size ∙ sym (mul-one n))
    (λ r c u v.
    let e : r * 1 + c ≡ r = omega arith in
    ap (item (g (part w x n))) e ∙ ap (λ (l : List Float). item (g l) r) (tab_cong n _ _ (λ i h. let d : i * 1 + c ≡ i = omega arith in sym (at_part w x n 1 i c h v ∙ ap (λ q. item w (x + q)) d)))))

-- ---- the same in a workspace, as the loops have it: w₀ before, w on the way, w1 after one step more

pub each_none : (w : List Float) (x n m : ℕ) (g : List Float → List Float) → x + n * m ≤ length w → ((l : List Float) → length l ≡ n → g l ≡ l)
    → w ≡ put w x (each_column n m g (part w x (n * m)))
each_none w x n m g room same =
    sym (put-part w x (n * m) room) ∙ ap (put w x) (each_same n m g (part w x (n * m)) (length_part w x (n * m)) same)

module _ (x n m : ℕ) (h : List Float → List Float) (w₀ w : List Float) (room : x + n * m ≤ length w₀) (e : w ≡ put w₀ x (each_column n m h (part w₀ x (n * m)))) where
  pub each_turn : (g k : List Float → List Float) (w1 : List Float) → ((l : List Float) → length l ≡ n → length (h l) ≡ n) → ((l : List Float) → length l ≡ n → g (h l) ≡ k l)
      → w1 ≡ put w x (each_column n m g (part w x (n * m))) → w1 ≡ put w₀ x (each_column n m k (part w₀ x (n * m)))
  each_turn g k w1 size same e1 =
      let b = part w₀ x (n * m) in
      part_turn x (n * m) w₀ w w1 (each_column n m h b) (each_column n m k b) (each_column n m g) room (length-each n m h b) (length-each n m k b) e e1 (each_each n m g h k b size same)

  -- the factors apart from it are as they were
  pub factors_kept : (o : ℕ) → Apart o (n * n) x (n * m) → part w o (n * n) ≡ part w₀ o (n * n)
  factors_kept o apart = part_kept o (n * n) x (n * m) w₀ w (each_column n m h (part w₀ x (n * m))) apart (length-each n m h (part w₀ x (n * m))) e

-- ---- rows

-- l is w but for the matrix of n rows and m columns at x
put_grid_is : (w l : List Float) (x n m : ℕ) (H : ℕ → ℕ → Float) → length l ≡ length w → x + n * m ≤ length w
    → ((q : ℕ) → q < x → item l q ≡ item w q) → ((q : ℕ) → x + n * m ≤ q → item l q ≡ item w q)
    → ((r c : ℕ) → r < n → c < m → item l (x + (r * m + c)) ≡ H r c) → l ≡ put w x (grid n m H)
unfolding at
put_grid_is w l x n m H size room before after inside =
    ext_get_or nan l (put w x M) (size ∙ sym (length-put w x M)) (λ q b. go q (split q x) (split q (x + n * m)))
  where
    M : List Float
    M = grid n m H

    long : length M ≡ n * m
    long = length-grid n m H

    go : (q : ℕ) → (q < x) ⊎ (x ≤ q) → (q < x + n * m) ⊎ (x + n * m ≤ q) → item l q ≡ item (put w x M) q
    go q (inl a) b = before q a ∙ sym (get_or-put_before w x M q nan a)
    go q (inr a) (inr b) = after q b ∙ sym (get_or-put_after w x M q nan (omega (arith, long)))
    go q (inr a) (inl b) =
        let p : q - x < n * m = omega arith in
        let r : (q - x) / m < n = row_lt n m (q - x) p in
        let c : (q - x) % m < m = column_lt n m (q - x) p in
        let e : q ≡ x + ((q - x) / m * m + (q - x) % m) = omega (arith, div-add-mod' (q - x) m) in
        ap (item l) e
        ∙ inside ((q - x) / m) ((q - x) % m) r c
        ∙ sym (get_or-put_in w x M ((q - x) / m * m + (q - x) % m) nan (omega (arith, long, index_lt r c)) (omega (arith, long)) ∙ at-grid n m H ((q - x) / m) ((q - x) % m) r c)
        ∙ ap (item (put w x M)) (sym e)

-- entries of a matrix whose row i is replaced
module _ (w T : List Float) (x n m i : ℕ) (size : length T ≡ m) (hi : i < n) where
  row_in : (c : ℕ) → c < m → x + n * m ≤ length w → item (put w (x + i * m) T) (x + (i * m + c)) ≡ item T c
  row_in c v room =
      let e : x + (i * m + c) ≡ x + i * m + c = omega arith in
      rw e (get_or-put_in w (x + i * m) T c nan (omega (arith, size)) (omega (arith, size, row_end i n m hi)))

  row_other : (r c : ℕ) → (r ≡ i → ⊥) → c < m → item (put w (x + i * m) T) (x + (r * m + c)) ≡ item w (x + (r * m + c))
  row_other r c d v =
      ⊎_elim (λ (s : r < i). get_or-put_before w (x + i * m) T (x + (r * m + c)) nan (omega (arith, index_lt s v)))
      (λ (s : i ≤ r).
      let t : i < r = omega arith in
      get_or-put_after w (x + i * m) T (x + (r * m + c)) nan (omega (arith, size, row_end i r m t)))
      (split r i)

  row_before : (q : ℕ) → q < x → item (put w (x + i * m) T) q ≡ item w q
  row_before q h = get_or-put_before w (x + i * m) T q nan (omega arith)

  row_after : (q : ℕ) → x + n * m ≤ q → item (put w (x + i * m) T) q ≡ item w q
  row_after q h = get_or-put_after w (x + i * m) T q nan (omega (arith, size, row_end i n m hi))

-- entry (r, c) of the matrix at x, as an element of its column
pub item-part : (w : List Float) (x n m r c : ℕ) → r < n → c < m → item w (x + (r * m + c)) ≡ item (column n m (part w x (n * m)) c) r
item-part w x n m r c u v = sym (item-column n m (part w x (n * m)) c r u ∙ at_part w x n m r c u v)

-- the same as the row kernels read it
pub row_item : (w : List Float) (x n m r c : ℕ) → r < n → c < m → item w (x + r * m + c) ≡ item (column n m (part w x (n * m)) c) r
row_item w x n m r c u v = let e : x + r * m + c ≡ x + (r * m + c) = omega arith in rw e (item-part w x n m r c u v)

-- two rows are apart
pub rows_apart : (x m i k : ℕ) → (i ≡ k → ⊥) → Apart (x + k * m) m (x + i * m) m
rows_apart x m i k d =
    ⊎_elim (λ (h : k < i). inl (omega (arith, row_end k i m h))) (λ (h : i ≤ k). let g : i < k = omega arith in inr (omega (arith, row_end i k m g))) (split k i)

-- row i replaced: a store to element i of each column
pub set_row : (w : List Float) (x n m i : ℕ) (v : List Float → Float) (G : ℕ → Float) → i < n → x + n * m ≤ length w
    → ((c : ℕ) → c < m → G c ≡ v (column n m (part w x (n * m)) c))
    → put w (x + i * m) (tab m G) ≡ put w x (each_column n m (λ l. set l i (v l)) (part w x (n * m)))
unfolding each_column
set_row w x n m i v G hi room same =
    put_grid_is w (put w (x + i * m) T) x n m _ (length-put w (x + i * m) T) room (row_before w T x n m i size hi) (row_after w T x n m i size hi)
    (λ r c u s.
    let l = column n m (part w x (n * m)) c in
    let long : length l ≡ n = length-column n m (part w x (n * m)) c in
    ⊎_elim (λ (e : r ≡ i). rw e (row_in w T x n m i size hi c s room ∙ get_or-tab m G c nan s ∙ same c s ∙ sym (get_or-set_same l i (v l) nan (omega arith))))
    (λ (d : r ≡ i → ⊥). row_other w T x n m i size hi r c d s ∙ item-part w x n m r c u s ∙ sym (get_or-set_other l i r (v l) nan d))
    (same_or_not r i))
  where
    T : List Float
    T = tab m G

    size : length T ≡ m
    size = length-tab m G

-- rows k and p changed
pub swap_rows_in : (w : List Float) (x n m k p : ℕ) → k < n → p < n → x + n * m ≤ length w
    → put (put w (x + k * m) (part w (x + p * m) m)) (x + p * m) (part w (x + k * m) m) ≡ put w x (each_column n m (swap_items n k p) (part w x (n * m)))
unfolding each_column swap_items
swap_rows_in w x n m k p hk hp room =
    put_grid_is w (put U (x + p * m) K) x n m _ (length-put U (x + p * m) K ∙ long) room
    (λ q h. row_before U K x n m p size_k hp q h ∙ row_before w P x n m k size_p hk q h)
    (λ q h. row_after U K x n m p size_k hp q h ∙ row_after w P x n m k size_p hk q h)
    (λ r c u s. inside r c u s ∙ sym (get_or-tab n _ r nan u))
  where
    K : List Float
    K = part w (x + k * m) m

    P : List Float
    P = part w (x + p * m) m

    U : List Float
    U = put w (x + k * m) P

    size_k : length K ≡ m
    size_k = length_part w (x + k * m) m

    size_p : length P ≡ m
    size_p = length_part w (x + p * m) m

    long : length U ≡ length w
    long = length-put w (x + k * m) P

    old : (r c : ℕ) → r < n → c < m → item (part w (x + r * m) m) c ≡ item (column n m (part w x (n * m)) c) r
    old r c u s = get_d_part w (x + r * m) m c s ∙ row_item w x n m r c u s

    inside : (r c : ℕ) → r < n → c < m → item (put U (x + p * m) K) (x + (r * m + c)) ≡ item (column n m (part w x (n * m)) c) (exchange k p r)
    inside r c u s =
        ⊎_elim (λ (e : r ≡ p). rw (e, exchange_second k p) (row_in U K x n m p size_k hp c s (omega (arith, long)) ∙ old k c hk s))
        (λ (d : r ≡ p → ⊥).
        row_other U K x n m p size_k hp r c d s
        ∙ ⊎_elim (λ (e : r ≡ k). rw (e, exchange_first k p) (row_in w P x n m k size_p hk c s room ∙ old p c hp s))
        (λ (f : r ≡ k → ⊥). rw (exchange_other k p r f d) (row_other w P x n m k size_p hk r c f s ∙ item-part w x n m r c u s))
        (same_or_not r k))
        (same_or_not r p)

-- the same where the matrix is the whole list
pub swap_rows_whole : (n k p : ℕ) (a : List Float) → k < n → p < n → length a ≡ n * n → put a 0 (each_column n n (swap_items n k p) (part a 0 (n * n))) ≡ swap_rows n k p a
unfolding each_column swap_items swap_rows at
swap_rows_whole n k p a hk hp size =
    let b = part a 0 (n * n) in
    put_all a (each_column n n (swap_items n k p) b) (length-each n n (swap_items n k p) b ∙ sym size)
    ∙ grid_cong n n _ _ (λ r c u v. get_or-tab n _ r nan u ∙ sym (item-part a 0 n n (exchange k p r) c (exchange_in (λ q. q < n) k p r hk hp u) v) ∙ rw zero-add)

-- a row that changes places with itself
pub swap_self : (n k : ℕ) (l : List Float) → length l ≡ n → swap_items n k k l ≡ l
unfolding swap_items
swap_self n k l size =
    sym
    (tab_is nan n _ l size
    (λ i h. ap (item l) (⊎_elim (λ (e : i ≡ k). rw (e, exchange_first k k)) (λ (d : i ≡ k → ⊥). sym (exchange_other k k i d d)) (same_or_not i k))))
