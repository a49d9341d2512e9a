-- Laws of `patch`, `row_to` and `rows_to`: lists and matrices that a loop changes in place, from a start up to where it stands. Assumes nothing.
use Prim.Native.Nat.{ℕ, zero, suc, ◌+◌, ◌*◌, ◌-◌, ◌/◌, ◌%◌, ◌≤◌, ◌<◌}
use mathlib.Core.Path.{◌≡◌, refl, sym, ap, ap₂, ◌∙◌}
use mathlib.Core.List.{List, [], ◌∷◌}
use mathlib.Core.Logic.{⊎_elim}
use native.Mathlib.Nat.{div-add-mod', le-div_iff_mul-le, zero-mul, mul-le-mul_right}
use native.Mathlib.Omega.{arith}
use lib.Arith.{digits_div, digits_mod}
use lib.ListN.{length, get_or, set, length-set}
use lib.Seq.{ext_get_or, get_or-set_same, get_or-set_other}
use lib.Ieee.{Float, nan}
use borrow.Author.Tests.{lt-ltb, le-ltb, le-leb, lt-leb}
use Rattle.arithmetic_matrices.specs.Matrix.{tab, at, grid}
use Rattle.arithmetic_matrices.specs.Kernels.{map_indexed, patch, row_to, with_row, rows_to}
use Rattle.arithmetic_floats.proofs.Order.{split}
use Rattle.arithmetic_matrices.proofs.MatrixLaws.{length-tab, get_or-tab, index_lt, row_lt, column_lt, grid_is}

-- ---- patches

module _ {A : Type 0} where
  pub length-map_indexed : (h : ℕ → A → A) (l : List A) → length (map_indexed h l) ≡ length l
  unfolding map_indexed
  length-map_indexed h [] = refl
  length-map_indexed h (x ∷ l) = ap suc (length-map_indexed (λ i. h (suc i)) l)

  pub get_or-map_indexed : (h : ℕ → A → A) (l : List A) (i : ℕ) (d : A) → i < length l → get_or (map_indexed h l) i d ≡ h i (get_or l i d)
  unfolding map_indexed
  get_or-map_indexed h [] i d p = absurd (omega arith)
  get_or-map_indexed h (x ∷ l) zero d p = refl
  get_or-map_indexed h (x ∷ l) (suc i) d p = get_or-map_indexed (λ n. h (suc n)) l i d (omega arith)

  pub length-patch : (lo hi : ℕ) (g : ℕ → A) (l : List A) → length (patch lo hi g l) ≡ length l
  unfolding patch
  length-patch lo hi g l = length-map_indexed _ l

  -- an index within the patch, below it and above it
  pub patch_in : (lo hi : ℕ) (g : ℕ → A) (l : List A) (q : ℕ) (d : A) → lo ≤ q → q < hi → q < length l → get_or (patch lo hi g l) q d ≡ g q
  unfolding patch
  patch_in lo hi g l q d a b h = get_or-map_indexed _ l q d h ∙ simp (le-leb lo q a, lt-ltb q hi b)

  pub patch_below : (lo hi : ℕ) (g : ℕ → A) (l : List A) (q : ℕ) (d : A) → q < lo → q < length l → get_or (patch lo hi g l) q d ≡ get_or l q d
  unfolding patch
  patch_below lo hi g l q d a h = get_or-map_indexed _ l q d h ∙ simp (lt-leb lo q a)

  pub patch_above : (lo hi : ℕ) (g : ℕ → A) (l : List A) (q : ℕ) (d : A) → lo ≤ q → hi ≤ q → q < length l → get_or (patch lo hi g l) q d ≡ get_or l q d
  unfolding patch
  patch_above lo hi g l q d a b h = get_or-map_indexed _ l q d h ∙ simp (le-leb lo q a, le-ltb q hi b)

  module _ (d : A) (lo hi : ℕ) (g : ℕ → A) (l : List A) where
    -- a list is a patch of l where it is g within the range and l outside of it
    pub patch_is : (x : List A) → length x ≡ length l
        → ((q : ℕ) → lo ≤ q → q < hi → q < length l → get_or x q d ≡ g q)
        → ((q : ℕ) → q < lo → q < length l → get_or x q d ≡ get_or l q d)
        → ((q : ℕ) → lo ≤ q → hi ≤ q → q < length l → get_or x q d ≡ get_or l q d)
        → x ≡ patch lo hi g l
    patch_is x e within below above =
        ext_get_or d x (patch lo hi g l) (e ∙ sym (length-patch lo hi g l))
        (λ q h.
        let m : q < length l = omega arith in
        ⊎_elim (λ a. below q a m ∙ sym (patch_below lo hi g l q d a m))
        (λ a.
        ⊎_elim (λ b. within q a b m ∙ sym (patch_in lo hi g l q d a b m))
        (λ b. above q a b m ∙ sym (patch_above lo hi g l q d a b m)) (split q hi))
        (split q lo))

  module _ (d : A) (lo : ℕ) (g : ℕ → A) (l : List A) where
    -- an empty range changes nothing
    pub patch_none : l ≡ patch lo lo g l
    patch_none = patch_is d lo lo g l l refl (λ q a b h. absurd (omega arith)) (λ q a h. refl) (λ q a b h. refl)

    -- a store at the end of the range makes the range one longer
    pub patch_more : (hi : ℕ) → lo ≤ hi → hi < length l → set (patch lo hi g l) hi (g hi) ≡ patch lo (hi + 1) g l
    patch_more hi a b =
        patch_is d lo (hi + 1) g l (set (patch lo hi g l) hi (g hi)) (length-set (patch lo hi g l) hi (g hi) ∙ length-patch lo hi g l)
        (λ q u v h.
        ⊎_elim (λ w. get_or-set_other (patch lo hi g l) hi q (g hi) d (omega arith) ∙ patch_in lo hi g l q d u w h)
        (λ w.
        let e : q ≡ hi = omega arith in
        rw e (get_or-set_same (patch lo hi g l) hi (g hi) d (rw length-patch b)))
        (split q hi))
        (λ q u h. get_or-set_other (patch lo hi g l) hi q (g hi) d (omega arith) ∙ patch_below lo hi g l q d u h)
        (λ q u v h. get_or-set_other (patch lo hi g l) hi q (g hi) d (omega arith) ∙ patch_above lo hi g l q d u (omega arith) h)

    -- where g is l itself the range may be longer
    pub patch_skip : (hi hi' : ℕ) → hi ≤ hi' → ((q : ℕ) → hi ≤ q → q < hi' → q < length l → g q ≡ get_or l q d) → patch lo hi g l ≡ patch lo hi' g l
    patch_skip hi hi' a same =
        patch_is d lo hi' g l (patch lo hi g l) (length-patch lo hi g l)
        (λ q u v h.
        ⊎_elim (λ w. patch_in lo hi g l q d u w h)
        (λ w. patch_above lo hi g l q d u w h ∙ sym (same q w v h))
        (split q hi))
        (λ q u h. patch_below lo hi g l q d u h)
        (λ q u v h. patch_above lo hi g l q d u (omega arith) h)

    -- a patch of a patch that begins where the first ends
    pub patch_join : (mid hi : ℕ) (g' : ℕ → A) → lo ≤ mid → mid ≤ hi
        → ((q : ℕ) → mid ≤ q → q < hi → q < length l → g' q ≡ g q)
        → patch mid hi g' (patch lo mid g l) ≡ patch lo hi g l
    patch_join mid hi g' a b same =
        let k = patch lo mid g l in
        let e : length (patch lo mid g l) ≡ length l = length-patch lo mid g l in
        patch_is d lo hi g l (patch mid hi g' (patch lo mid g l)) (length-patch mid hi g' (patch lo mid g l) ∙ e)
        (λ q u v h.
        ⊎_elim (λ w. patch_below mid hi g' (patch lo mid g l) q d w (omega arith) ∙ patch_in lo mid g l q d u w h)
        (λ w. patch_in mid hi g' (patch lo mid g l) q d w v (omega arith) ∙ same q w v h)
        (split q mid))
        (λ q u h. patch_below mid hi g' (patch lo mid g l) q d (omega arith) (omega arith) ∙ patch_below lo mid g l q d u h)
        (λ q u v h. patch_above mid hi g' (patch lo mid g l) q d (omega arith) v (omega arith) ∙ patch_above lo mid g l q d u (omega arith) h)

  -- a patch of the whole list is a table
  pub patch_all : (d : A) (k : ℕ) (g : ℕ → A) (l : List A) → length l ≡ k → patch 0 k g l ≡ tab k g
  patch_all d k g l e =
      let n : length (patch 0 k g l) ≡ k = length-patch 0 k g l ∙ e in
      ext_get_or d (patch 0 k g l) (tab k g) (n ∙ sym (length-tab k g))
      (λ q h. patch_in 0 k g l q d (omega arith) (omega arith) (omega arith) ∙ sym (get_or-tab k g q d (omega arith)))

-- ---- a row that is filled from the left

module _ (n i : ℕ) (h : ℕ → Float) (a : List Float) where
  pub row_none : a ≡ row_to n i h a 0
  unfolding row_to
  row_none = let e : i * n + 0 ≡ i * n = omega arith in rw e (patch_none nan (i * n) (λ q. h (q - i * n)) a)

  pub row_more : (j : ℕ) → i * n + j < length a → set (row_to n i h a j) (i * n + j) (h j) ≡ row_to n i h a (j + 1)
  unfolding row_to
  row_more j b =
      let e : i * n + (j + 1) ≡ i * n + j + 1 = omega arith in
      let d : i * n + j - i * n ≡ j = omega arith in
      rw e (ap (λ q. set (patch (i * n) (i * n + j) (λ q. h (q - i * n)) a) (i * n + j) (h q)) (sym d)
      ∙ patch_more nan (i * n) (λ q. h (q - i * n)) a (i * n + j) (omega arith) b)

  -- columns in which the row does not change
  pub row_skip : (j j' : ℕ) → j ≤ j' → ((c : ℕ) → j ≤ c → c < j' → h c ≡ at n a i c) → row_to n i h a j ≡ row_to n i h a j'
  unfolding row_to at
  row_skip j j' b same =
      patch_skip nan (i * n) (λ q. h (q - i * n)) a (i * n + j) (i * n + j') (omega arith)
      (λ q u v w.
      let e : i * n + (q - i * n) ≡ q = omega arith in
      same (q - i * n) (omega arith) (omega arith) ∙ ap (λ k. get_or a k nan) e)

  pub row_right : (j c : ℕ) → j ≤ c → i * n + c < length a → at n (row_to n i h a j) i c ≡ at n a i c
  unfolding row_to at
  row_right j c b w = patch_above (i * n) (i * n + j) (λ q. h (q - i * n)) a (i * n + c) nan (omega arith) (omega arith) w

  pub row_above : (j r c : ℕ) → r < i → c < n → r * n + c < length a → at n (row_to n i h a j) r c ≡ at n a r c
  unfolding row_to at
  row_above j r c b d w =
      let e : r * n + c < i * n = index_lt b d in
      patch_below (i * n) (i * n + j) (λ q. h (q - i * n)) a (r * n + c) nan e w

-- ---- a matrix that is filled from the top, row by row

module _ (n : ℕ) (F : ℕ → ℕ → Float) (a : List Float) where
  pub length-rows_to : (i : ℕ) → length (rows_to n F a i) ≡ length a
  unfolding rows_to
  length-rows_to i = length-patch 0 (i * n) (λ q. F (q / n) (q % n)) a

  pub rows_none : a ≡ rows_to n F a 0
  unfolding rows_to
  rows_none = rw zero-mul (patch_none nan 0 (λ q. F (q / n) (q % n)) a)

  -- rows that do not change
  pub rows_skip : (i i' : ℕ) → i ≤ i' → ((r c : ℕ) → i ≤ r → r < i' → c < n → F r c ≡ at n a r c) → rows_to n F a i ≡ rows_to n F a i'
  unfolding rows_to at
  rows_skip i i' b same =
      patch_skip nan 0 (λ q. F (q / n) (q % n)) a (i * n) (i' * n) (mul-le-mul_right n b)
      (λ q u v w.
      let d : q % n < n = column_lt i' n q v in
      same (q / n) (q % n) ((le-div_iff_mul-le {k = n} {x = i} {y = q} (omega arith)).1 u) (row_lt i' n q v) d
      ∙ ap (λ k. get_or a k nan) (div-add-mod' q n))

  -- the next row
  pub rows_more : (h : ℕ → Float) (i : ℕ) → ((c : ℕ) → c < n → h c ≡ F i c) → with_row n i h (rows_to n F a i) ≡ rows_to n F a (i + 1)
  unfolding rows_to with_row row_to
  rows_more h i same =
      let e : (i + 1) * n ≡ i * n + n = omega arith in
      rw e
      (patch_join nan 0 (λ q. F (q / n) (q % n)) a (i * n) (i * n + n) (λ q. h (q - i * n)) (omega arith) (omega arith)
      (λ q u v w.
      let b : q - i * n < n = omega arith in
      let d : i * n + (q - i * n) ≡ q = omega arith in
      same (q - i * n) b
      ∙ ap₂ F (sym (digits_div i b)) (sym (digits_mod i b))
      ∙ ap (λ k. F (k / n) (k % n)) d))

  -- what is read while the matrix is filled
  pub rows_new : (i r c : ℕ) → r < i → c < n → r * n + c < length a → at n (rows_to n F a i) r c ≡ F r c
  unfolding rows_to at
  rows_new i r c b d w =
      patch_in 0 (i * n) (λ q. F (q / n) (q % n)) a (r * n + c) nan (omega arith) (index_lt b d) w ∙ ap₂ F (digits_div r d) (digits_mod r d)

  pub rows_old : (i r c : ℕ) → i ≤ r → r * n + c < length a → at n (rows_to n F a i) r c ≡ at n a r c
  unfolding rows_to at
  rows_old i r c b w =
      let e : i * n ≤ r * n = mul-le-mul_right n b in
      patch_above 0 (i * n) (λ q. F (q / n) (q % n)) a (r * n + c) nan (omega arith) (omega arith) w

  pub rows_all : (m : ℕ) → length a ≡ m * n → rows_to n F a m ≡ grid m n F
  rows_all m e = grid_is m n F (rows_to n F a m) (length-rows_to m ∙ e) (λ i j u v. rows_new m i j u v (rw e (index_lt u v)))
