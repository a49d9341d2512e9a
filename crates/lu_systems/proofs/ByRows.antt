-- The substitutions a row at a time. The definition (Solve.antt) takes the columns of the factors one by one; a row kernel computes row i from the rows
-- that are final. The operations on an entry and their order are the same, so the two agree. Assumes nothing.
use Prim.Native.Nat.{ℕ, zero, suc, ◌+◌, ◌-◌, ◌*◌, ◌<◌, ◌≤◌}
use native.Mathlib.Omega.{arith}
use native.Mathlib.Nat.{add-mul}
use native.Mathlib.Numerals.{add-one}
use mathlib.Core.Path.{◌≡◌, refl, sym, ◌∙◌, ap}
use mathlib.Core.List.{List}
use mathlib.Core.Logic.{⊎_elim}
use lib.ListN.{length, set, length-set}
use lib.Seq.{get_or-set_same, get_or-set_other}
use lib.Ieee.{Float, nan, Format, sub, mul, div}
use borrow.Author.Tests.{lt-ltb, le-ltb, eq-eqb, ne_eqb}
use Rattle.arithmetic_matrices.specs.Matrix.{tab, at, item, part, put, Apart}
use Rattle.arithmetic_matrices.specs.Kernels.{patch}
use Rattle.arithmetic_floats.proofs.Order.{same_or_not}
use Rattle.arithmetic_matrices.proofs.MatrixLaws.{length-tab, get_or-tab, tab_cong, tab_is, index_lt, more_rows}
use Rattle.arithmetic_matrices.proofs.PatchLaws.{length-patch, patch_is, patch_in, patch_below, patch_above, patch_none, patch_more, patch_all}
use Rattle.arithmetic_matrices.proofs.ProductLaws.{put_more}
use Rattle.arithmetic_matrices.proofs.PartLaws.{at_part, length-put, get_or-put_after, get_or-put_apart}
use Rattle.lu_factoring.specs.Solve.{forward_step, forward, back_step, back}
use Rattle.lu_systems.specs.Kernels.{less_products, lower_entry, upper_entry, row_at, column_at}
use Rattle.lu_factoring.specs.Kernels.{each_column}
use Rattle.lu_factoring.proofs.SolveLaws.{length-forward, length_back}
use Rattle.lu_factoring.proofs.RowLaws.{each_none, each_cong, each_turn, factors_kept, item-part, row_item, set_row}

low_cong : (f : Format) (v v' : Float) (a a' b b' : ℕ → Float) (k : ℕ) → v ≡ v' → ((i : ℕ) → i < k → a i ≡ a' i) → ((i : ℕ) → i < k → b i ≡ b' i) → less_products f v a b k ≡ less_products f v' a' b' k
unfolding less_products
low_cong f v v' a a' b b' zero e p q = e
low_cong f v v' a a' b b' (suc k) e p q =
    λ t. sub f (low_cong f v v' a a' b b' k e (λ i h. p i (omega arith)) (λ i h. q i (omega arith)) t) (mul f (p k (omega arith) t) (q k (omega arith) t))

-- ---- one column

module _ (f : Format) (n : ℕ) (F l : List Float) where
  -- item i after k columns
  abbrev down : ℕ → ℕ → Float
  down k i = item (forward f n F l k) i

  -- until column i, item i is lowered once a column
  forward_low : (i k : ℕ) → i < n → k ≤ i → down k i ≡ less_products f (item l i) (at n F i) (λ j. down j j) k
  unfolding forward forward_step less_products
  forward_low i zero hi h = refl
  forward_low i (suc k) hi h =
      get_or-tab n _ i nan hi ∙ rw (lt-ltb k i (omega arith)) (ap (λ v. sub f v (mul f (at n F i k) (down k k))) (forward_low i k hi (omega arith)))

  -- from then on it stays
  forward_stays : (i d : ℕ) → i < n → down (i + d) i ≡ down i i
  unfolding forward forward_step
  forward_stays i zero hi = let e : i + 0 ≡ i = omega arith in ap (λ k. down k i) e
  forward_stays i (suc d) hi =
      let e : i + suc d ≡ suc (i + d) = omega arith in
      ap (λ k. down k i) e ∙ get_or-tab n _ i nan hi ∙ rw (le-ltb (i + d) i (omega arith)) (forward_stays i d hi)

  forward_end : (i : ℕ) → i < n → down n i ≡ down i i
  forward_end i hi = let e : n ≡ i + (n - i) = omega arith in ap (λ k. down k i) e ∙ forward_stays i (n - i) hi

  -- item i of the solution, from the items before it
  forward_is : (i : ℕ) → i < n → down n i ≡ less_products f (item l i) (at n F i) (down n) i
  forward_is i hi =
      forward_end i hi
      ∙ forward_low i i hi (omega arith)
      ∙ low_cong f (item l i) (item l i) (at n F i) (at n F i) (λ j. down j j) (down n) i refl (λ j h. refl) (λ j h. sym (forward_end j (omega arith)))

  -- item i after the last d columns
  abbrev up : ℕ → ℕ → Float
  up d i = item (back f n F l d) i

  back_divided : (i d : ℕ) → i + suc d ≡ n → up (suc d) i ≡ div f (up d i) (at n F i i)
  unfolding back back_step
  back_divided i d h = let e : n - suc d ≡ i = omega arith in rw e (get_or-tab n _ i nan (omega arith) ∙ rw (eq-eqb i i refl))

  back_low : (i d : ℕ) → i + d < n → up d i ≡ less_products f (item l i) (λ e. at n F i (n - suc e)) (λ e. up (suc e) (n - suc e)) d
  unfolding back back_step less_products
  back_low i zero h = refl
  back_low i (suc d) h =
      get_or-tab n _ i nan (omega arith)
      ∙ rw (ne_eqb i (n - suc d) (omega arith), lt-ltb i (n - suc d) (omega arith))
      (λ t. sub f (back_low i d (omega arith) t) (mul f (at n F i (n - suc d)) (sym (back_divided (n - suc d) d (omega arith)) t)))

  back_stays : (i d e : ℕ) → i < n → n ≤ i + d → d + e ≤ n → up (d + e) i ≡ up d i
  unfolding back back_step
  back_stays i d zero hi h b = let q : d + 0 ≡ d = omega arith in ap (λ k. up k i) q
  back_stays i d (suc e) hi h b =
      let q : d + suc e ≡ suc (d + e) = omega arith in
      ap (λ k. up k i) q
      ∙ get_or-tab n _ i nan hi
      ∙ rw (ne_eqb i (n - suc (d + e)) (omega arith), le-ltb i (n - suc (d + e)) (omega arith)) (back_stays i d e hi h (omega arith))

  back_end : (i d : ℕ) → i < n → n ≤ i + d → d ≤ n → up n i ≡ up d i
  back_end i d hi h b = let e : n ≡ d + (n - d) = omega arith in ap (λ k. up k i) e ∙ back_stays i d (n - d) hi h (omega arith)

  -- item i of the solution, from the k items after it
  back_is : (i k : ℕ) → i + suc k ≡ n → up n i ≡ div f (less_products f (item l i) (λ d. at n F i (i + (k - d))) (λ d. up n (i + (k - d))) k) (at n F i i)
  back_is i k h =
      back_end i (suc k) (omega arith) (omega arith) (omega arith)
      ∙ back_divided i k h
      ∙ ap (λ v. div f v (at n F i i))
      (back_low i k (omega arith)
      ∙ low_cong f (item l i) (item l i) (λ e. at n F i (n - suc e)) (λ d. at n F i (i + (k - d))) (λ e. up (suc e) (n - suc e)) (λ d. up n (i + (k - d))) k refl
      (λ d b. let e : n - suc d ≡ i + (k - d) = omega arith in ap (at n F i) e)
      (λ d b. let e : n - suc d ≡ i + (k - d) = omega arith in ap (up (suc d)) e ∙ sym (back_end (i + (k - d)) (suc d) (omega arith) (omega arith) (omega arith))))

-- ---- a turn of the sums; the factors stand in F, the right-hand sides in w, which may be one list

-- row i, and the k rows after it
pub rows_from : (i k n m : ℕ) → i + suc k ≡ n → i * m + (k * m + m) ≡ n * m
rows_from i k n m h = let e : i + (k + 1) ≡ n = omega arith in ap (λ t. i * m + t) (sym (more_rows k m)) ∙ sym (add-mul i (k + 1) m) ∙ ap (λ t. t * m) e

-- ---- the sums of a block of a row

-- t is the sum s, which is less the first k products, less the product p of v and u, which are the next two numbers
pub less_added : (f : Format) (x : Float) (a b : ℕ → Float) {k : ℕ} {s v u p t : Float} → t ≡ sub f s p → p ≡ mul f v u → s ≡ less_products f x a b k → v ≡ a k → u ≡ b k → t ≡ less_products f x a b (k + 1)
unfolding less_products
less_added f x a b d e hs hv hu = d ∙ (λ i. sub f (hs i) ((e ∙ (λ j. mul f (hv j) (hu j))) i)) ∙ rw add-one

-- number t of the row at y from column j on, less the first i products
abbrev pub less_row : Format → List Float → ℕ → ℕ → (ℕ → Float) → (ℕ → ℕ → Float) → ℕ → ℕ → Float
less_row f w y j a b i t = less_products f (row_at w y (j + t)) a (b (j + t)) i

pub less_row_none : (f : Format) (w : List Float) (y j c : ℕ) (a : ℕ → Float) (b : ℕ → ℕ → Float) → part w (y + j) c ≡ tab c (less_row f w y j a b 0)
unfolding part less_products
less_row_none f w y j c a b = tab_cong c _ (less_row f w y j a b 0) (λ t h. let e : y + j + t ≡ y + (j + t) = omega arith in ap (item w) e)

-- all k products are taken off; the factors stand in F, the right-hand sides in w, which may be one list
pub lower_row_done : (f : Format) (i k m : ℕ) (F w : List Float) (q x y j c : ℕ) {l : List Float} → i ≡ k → l ≡ tab c (less_row f w y j (row_at F q) (column_at m w x) i)
    → l ≡ tab c (λ t. lower_entry f k (row_at F q) (column_at m w x) (row_at w y) (j + t))
unfolding lower_entry
lower_row_done f i k m F w q x y j c h e = rw h at e

pub upper_row_done : (f : Format) (i k m : ℕ) (F w : List Float) (g y j t : ℕ) {r s d : Float} → i ≡ k → r ≡ div f s d → s ≡ less_row f w y j (λ e. row_at F g (k - e)) (λ u e. column_at m w y u (k - e)) i t → d ≡ item F g
    → r ≡ upper_entry f k (row_at F g) (column_at m w y) (row_at w y) (j + t)
unfolding upper_entry
upper_row_done f i k m F w g y j t h e hs hd = let b : g ≡ g + 0 = omega arith in e ∙ (λ u. div f ((rw h at hs) u) ((hd ∙ ap (item F) b) u))

-- ---- a row, written from the left

-- c more numbers after the first j: they read nothing of what is written. a is what was read of the factors, and a' what is read then.
module _ (f : Format) (k m : ℕ) (w : List Float) (y j c : ℕ) (h : j + c ≤ m) (a a' : ℕ → Float) where
  pub lower_after : (x : ℕ) → ((i : ℕ) → i < k → a' i ≡ a i) → Apart x (k * m) y m
      → let R : ℕ → Float = lower_entry f k a (column_at m w x) (row_at w y) in
      let u : List Float = put w y (tab j R) in put u (y + j) (tab c (λ t. lower_entry f k a' (column_at m u x) (row_at u y) (j + t))) ≡ put w y (tab (j + c) R)
  unfolding lower_entry
  lower_after x same hx =
      let R : ℕ → Float = lower_entry f k a (column_at m w x) (row_at w y) in
      let u : List Float = put w y (tab j R) in
      let short : length (tab j R) ≡ j = length-tab j R in
      ap (put u (y + j))
      (tab_cong c _ (λ t. R (j + t))
      (λ t b.
      low_cong f _ _ _ _ _ _ k (get_or-put_after w y (tab j R) (y + (j + t)) nan (omega arith)) same
      (λ i d. let z : j + t < m = omega arith in get_or-put_apart w y m (tab j R) x (k * m) (i * m + (j + t)) nan hx (omega arith) (index_lt d z))))
      ∙ put_more c w y j R

  pub upper_after : ((d : ℕ) → d ≤ k → a' d ≡ a d)
      → let R : ℕ → Float = upper_entry f k a (column_at m w y) (row_at w y) in
      let u : List Float = put w y (tab j R) in put u (y + j) (tab c (λ t. upper_entry f k a' (column_at m u y) (row_at u y) (j + t))) ≡ put w y (tab (j + c) R)
  unfolding upper_entry
  upper_after same =
      let R : ℕ → Float = upper_entry f k a (column_at m w y) (row_at w y) in
      let u : List Float = put w y (tab j R) in
      let short : length (tab j R) ≡ j = length-tab j R in
      ap (put u (y + j))
      (tab_cong c _ (λ t. R (j + t))
      (λ t b i.
      div f
      (low_cong f _ _ _ _ _ _ k (get_or-put_after w y (tab j R) (y + (j + t)) nan (omega arith)) (λ e d. same (k - e) (omega arith))
      (λ e d. get_or-put_after w y (tab j R) (y + ((k - e) * m + (j + t))) nan (omega arith)) i)
      (same 0 (omega arith) i)))
      ∙ put_more c w y j R

-- the same where the factors stand in the workspace
module _ (f : Format) (k m : ℕ) (w : List Float) (y j c : ℕ) (h : j + c ≤ m) where
  pub lower_more : (q x : ℕ) → Apart q k y m → Apart x (k * m) y m
      → let R : ℕ → Float = lower_entry f k (row_at w q) (column_at m w x) (row_at w y) in
      let u : List Float = put w y (tab j R) in put u (y + j) (tab c (λ t. lower_entry f k (row_at u q) (column_at m u x) (row_at u y) (j + t))) ≡ put w y (tab (j + c) R)
  lower_more q x hq hx =
      let R : ℕ → Float = lower_entry f k (row_at w q) (column_at m w x) (row_at w y) in
      let short : length (tab j R) ≡ j = length-tab j R in
      lower_after f k m w y j c h (row_at w q) (row_at (put w y (tab j R)) q) x (λ i d. get_or-put_apart w y m (tab j R) q k i nan hq (omega arith) d) hx

  pub upper_more : (g : ℕ) → Apart g (k + 1) y m
      → let R : ℕ → Float = upper_entry f k (row_at w g) (column_at m w y) (row_at w y) in
      let u : List Float = put w y (tab j R) in put u (y + j) (tab c (λ t. upper_entry f k (row_at u g) (column_at m u y) (row_at u y) (j + t))) ≡ put w y (tab (j + c) R)
  upper_more g hg =
      let R : ℕ → Float = upper_entry f k (row_at w g) (column_at m w y) (row_at w y) in
      let short : length (tab j R) ≡ j = length-tab j R in
      upper_after f k m w y j c h (row_at w g) (row_at (put w y (tab j R)) g) (λ d b. get_or-put_apart w y m (tab j R) g (k + 1) d nan hg (omega arith) (omega arith))

-- ---- the rows: w₀ is the workspace before the loop, w in the turn and w1 after it; the factors are at o

-- the columns with their first i items final, and with their items from i on
abbrev pub forward_to : Format → ℕ → List Float → ℕ → List Float → List Float
forward_to f n F i l = patch 0 i (item (forward f n F l n)) l

abbrev pub back_from : Format → ℕ → List Float → ℕ → List Float → List Float
back_from f n F i l = patch i n (item (back f n F l n)) l

pub forward_all : (f : Format) (n : ℕ) (F l : List Float) → length l ≡ n → forward_to f n F n l ≡ forward f n F l n
forward_all f n F l s = patch_all nan n (item (forward f n F l n)) l s ∙ sym (tab_is nan n (item (forward f n F l n)) (forward f n F l n) (length-forward f n F l n s) (λ i h. refl))

pub back_all : (f : Format) (n : ℕ) (F l : List Float) → length l ≡ n → back_from f n F 0 l ≡ back f n F l n
back_all f n F l s = patch_all nan n (item (back f n F l n)) l s ∙ sym (tab_is nan n (item (back f n F l n)) (back f n F l n) (length_back f n F l n s) (λ i h. refl))

-- a store before the range makes the range one longer
patch_down : (i n : ℕ) (g : ℕ → Float) (l : List Float) → i < n → i < length l → set (patch (i + 1) n g l) i (g i) ≡ patch i n g l
patch_down i n g l hi hl =
    let P = patch (i + 1) n g l in
    let s : length (patch (i + 1) n g l) ≡ length l = length-patch (i + 1) n g l in
    patch_is nan i n g l (set P i (g i)) (length-set P i (g i) ∙ s)
    (λ q u v h.
    ⊎_elim (λ (e : q ≡ i). rw e (get_or-set_same P i (g i) nan (omega arith)))
    (λ (d : q ≡ i → ⊥). get_or-set_other P i q (g i) nan d ∙ patch_in (i + 1) n g l q nan (omega arith) v h) (same_or_not q i))
    (λ q u h. get_or-set_other P i q (g i) nan (omega arith) ∙ patch_below (i + 1) n g l q nan (omega arith) h)
    (λ q u v h. get_or-set_other P i q (g i) nan (omega arith) ∙ patch_above (i + 1) n g l q nan (omega arith) v h)

-- F is the list of the factors, and `row` what is read of their row i, from column 0 on or from the diagonal on
module _ (f : Format) (x n m : ℕ) (F w₀ w : List Float) (room : x + n * m ≤ length w₀) where
  pub forward_row : (i : ℕ) (row : ℕ → Float) (w1 : List Float) → i < n → ((k : ℕ) → k < i → row k ≡ at n F i k)
      → w ≡ put w₀ x (each_column n m (forward_to f n F i) (part w₀ x (n * m)))
      → w1 ≡ put w (x + i * m) (tab m (lower_entry f i row (column_at m w x) (row_at w (x + i * m))))
      → w1 ≡ put w₀ x (each_column n m (forward_to f n F (i + 1)) (part w₀ x (n * m)))
  unfolding lower_entry
  forward_row i row w1 hi read e e1 =
      each_turn x n m (forward_to f n F i) w₀ w room e (λ l. set l i (less_products f (item l i) (at n F i) (item l) i)) (forward_to f n F (i + 1)) w1
      (λ l s. length-patch 0 i (item (forward f n F l n)) l ∙ s)
      (λ l s.
      let G = item (forward f n F l n) in
      ap (set (patch 0 i G l) i)
      (low_cong f _ _ _ _ _ _ i (patch_above 0 i G l i nan (omega arith) (omega arith) (omega arith)) (λ k h. refl)
      (λ k h. patch_in 0 i G l k nan (omega arith) h (omega arith))
      ∙ sym (forward_is f n F l i hi))
      ∙ patch_more nan 0 G l i (omega arith) (omega arith))
      (e1
      ∙ set_row w x n m i (λ l. less_products f (item l i) (at n F i) (item l) i) _ hi long
      (λ c s. low_cong f _ _ _ _ _ _ i (row_item w x n m i c hi s) read (λ k h. item-part w x n m k c (omega arith) s)))
    where
      long : x + n * m ≤ length w
      long = omega (arith, ap length e ∙ length-put w₀ x (each_column n m (forward_to f n F i) (part w₀ x (n * m))))

  pub back_row : (i k : ℕ) (row : ℕ → Float) (w1 : List Float) → i + suc k ≡ n → ((d : ℕ) → d ≤ k → row d ≡ at n F i (i + d))
      → w ≡ put w₀ x (each_column n m (back_from f n F (i + 1)) (part w₀ x (n * m)))
      → w1 ≡ put w (x + i * m) (tab m (upper_entry f k row (column_at m w (x + i * m)) (row_at w (x + i * m))))
      → w1 ≡ put w₀ x (each_column n m (back_from f n F i) (part w₀ x (n * m)))
  unfolding upper_entry
  back_row i k row w1 hi read e e1 =
      each_turn x n m (back_from f n F (i + 1)) w₀ w room e (λ l. set l i (final l)) (back_from f n F i) w1
      (λ l s. length-patch (i + 1) n (item (back f n F l n)) l ∙ s)
      (λ l s.
      let G = item (back f n F l n) in
      ap (set (patch (i + 1) n G l) i)
      (ap (λ v. div f v (at n F i i))
      (low_cong f _ _ _ _ _ _ k (patch_below (i + 1) n G l i nan (omega arith) (omega arith)) (λ d h. refl)
      (λ d h. patch_in (i + 1) n G l (i + (k - d)) nan (omega arith) (omega arith) (omega arith)))
      ∙ sym (back_is f n F l i k hi))
      ∙ patch_down i n G l (omega arith) (omega arith))
      (e1
      ∙ set_row w x n m i final _ below long
      (λ c s t.
      div f
      (low_cong f _ _ _ _ _ _ k (row_item w x n m i c below s) (λ d h. read (k - d) (omega arith))
      (λ d h.
      let a : x + i * m + ((k - d) * m + c) ≡ x + ((i + (k - d)) * m + c) = omega (arith, add-mul i (k - d) m) in
      ap (item w) a ∙ item-part w x n m (i + (k - d)) c (omega arith) s) t)
      ((read 0 (omega arith) ∙ ap (at n F i) diagonal) t)))
    where
      final : List Float → Float
      final l = div f (less_products f (item l i) (λ d. at n F i (i + (k - d))) (λ d. item l (i + (k - d))) k) (at n F i i)

      below : i < n
      below = omega arith

      diagonal : i + 0 ≡ i
      diagonal = omega arith

      long : x + n * m ≤ length w
      long = omega (arith, ap length e ∙ length-put w₀ x (each_column n m (back_from f n F (i + 1)) (part w₀ x (n * m))))

module _ (f : Format) (o x n m : ℕ) (w₀ w : List Float) (room : x + n * m ≤ length w₀) (apart : Apart o (n * n) x (n * m)) where
  abbrev F₀ : List Float
  F₀ = part w₀ o (n * n)

  pub forward_rows_none : w₀ ≡ put w₀ x (each_column n m (forward_to f n F₀ 0) (part w₀ x (n * m)))
  forward_rows_none = each_none w₀ x n m (forward_to f n F₀ 0) room (λ l s. sym (patch_none nan 0 (item (forward f n F₀ l n)) l))

  pub forward_rows_more : (i : ℕ) (w1 : List Float) → i < n → w ≡ put w₀ x (each_column n m (forward_to f n F₀ i) (part w₀ x (n * m)))
      → w1 ≡ put w (x + i * m) (tab m (lower_entry f i (row_at w (o + i * n)) (column_at m w x) (row_at w (x + i * m))))
      → w1 ≡ put w₀ x (each_column n m (forward_to f n F₀ (i + 1)) (part w₀ x (n * m)))
  forward_rows_more i w1 hi e e1 =
      forward_row f x n m F₀ w₀ w room i (row_at w (o + i * n)) w1 hi
      (λ k h.
      let a : o + i * n + k ≡ o + (i * n + k) = omega arith in
      ap (item w) a ∙ sym (at_part w o n n i k hi (omega arith)) ∙ ap (λ (l : List Float). at n l i k) (factors_kept x n m (forward_to f n F₀ i) w₀ w room e o apart))
      e e1

  pub forward_rows_all : (i : ℕ) → i ≡ n → w ≡ put w₀ x (each_column n m (forward_to f n F₀ i) (part w₀ x (n * m)))
      → w ≡ put w₀ x (each_column n m (λ l. forward f n F₀ l n) (part w₀ x (n * m)))
  forward_rows_all i h e = (rw h at e) ∙ ap (put w₀ x) (each_cong n m (forward_to f n F₀ n) (λ l. forward f n F₀ l n) (part w₀ x (n * m)) (forward_all f n F₀))

  pub back_rows_none : w₀ ≡ put w₀ x (each_column n m (back_from f n F₀ n) (part w₀ x (n * m)))
  back_rows_none = each_none w₀ x n m (back_from f n F₀ n) room (λ l s. sym (patch_none nan n (item (back f n F₀ l n)) l))

  back_rows_more : (i k : ℕ) (w1 : List Float) → i + suc k ≡ n → w ≡ put w₀ x (each_column n m (back_from f n F₀ (i + 1)) (part w₀ x (n * m)))
      → w1 ≡ put w (x + i * m) (tab m (upper_entry f k (row_at w (o + i * n + i)) (column_at m w (x + i * m)) (row_at w (x + i * m))))
      → w1 ≡ put w₀ x (each_column n m (back_from f n F₀ i) (part w₀ x (n * m)))
  back_rows_more i k w1 hi e e1 =
      back_row f x n m F₀ w₀ w room i k (row_at w (o + i * n + i)) w1 hi
      (λ d h.
      let a : o + i * n + i + d ≡ o + (i * n + (i + d)) = omega arith in
      let b : i < n = omega arith in
      ap (item w) a ∙ sym (at_part w o n n i (i + d) b (omega arith)) ∙ ap (λ (l : List Float). at n l i (i + d)) (factors_kept x n m (back_from f n F₀ (i + 1)) w₀ w room e o apart))
      e e1

  -- the same with the final rows counted from the last one
  pub back_rows_turn : (i j k : ℕ) (w1 : List Float) → j ≡ i + 1 → i + suc k ≡ n → w ≡ put w₀ x (each_column n m (back_from f n F₀ j) (part w₀ x (n * m)))
      → w1 ≡ put w (x + i * m) (tab m (upper_entry f k (row_at w (o + i * n + i)) (column_at m w (x + i * m)) (row_at w (x + i * m))))
      → w1 ≡ put w₀ x (each_column n m (back_from f n F₀ i) (part w₀ x (n * m)))
  back_rows_turn i j k w1 hj hi e e1 = back_rows_more i k w1 hi (rw hj at e) e1

  pub back_rows_all : (i : ℕ) → i ≡ 0 → w ≡ put w₀ x (each_column n m (back_from f n F₀ i) (part w₀ x (n * m)))
      → w ≡ put w₀ x (each_column n m (λ l. back f n F₀ l n) (part w₀ x (n * m)))
  back_rows_all i h e = (rw h at e) ∙ ap (put w₀ x) (each_cong n m (back_from f n F₀ 0) (λ l. back f n F₀ l n) (part w₀ x (n * m)) (back_all f n F₀))
