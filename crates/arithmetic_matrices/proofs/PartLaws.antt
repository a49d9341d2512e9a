-- Laws of `part` and `put`: what stands side by side in one longer list, as in a workspace. Assumes nothing.
use Prim.Native.Nat.{ℕ, zero, suc, ◌+◌, ◌-◌, ◌*◌, ◌<◌, ◌≤◌}
use native.Mathlib.Nat.{zero-add, suc-add, add-zero, add-suc, not-suc-le-zero, le_of_suc-le-suc, ne_of_lt, ne_of_gt}
use native.Mathlib.Numerals.{add-one}
use native.Mathlib.Omega.{arith}
use mathlib.Core.Path.{◌≡◌, refl, sym, ◌∙◌, ap}
use mathlib.Core.List.{List, [], ◌∷◌, ◌++◌, append-nil, append_assoc}
use mathlib.Core.Logic.{◌⊎◌, inl, inr, ⊎_elim}
use lib.ListN.{length, get_or, take, drop, set, drop_of_length-le, length-take, length-drop, length-set}
use lib.Seq.{sets, sets-eq, get_or-take, get_or-drop, get_or-set_same, get_or-set_other, length-sets, ext_get_or, take_all}
use borrow.Rule.Slice.PartMut.{put_mid, Post-is}
use lib.Ieee.{Float, nan}
use Rattle.arithmetic_matrices.specs.Matrix.{tab, grid, at, part, put, Apart, item}
use Rattle.arithmetic_floats.proofs.Order.{split, same_or_not}
use Rattle.arithmetic_matrices.proofs.MatrixLaws.{length-tab, get_or-tab, tab_cong, tab_suc, length-grid, grid_suc, index_lt, tab_is}

-- ---- parts of a list

pub length_part : (w : List Float) (o k : ℕ) → length (part w o k) ≡ k
unfolding part
length_part w o k = length-tab k (λ i. get_or w (o + i) nan)

pub get_d_part : (w : List Float) (o k i : ℕ) → i < k → get_or (part w o k) i nan ≡ get_or w (o + i) nan
unfolding part
get_d_part w o k i h = get_or-tab k (λ i. get_or w (o + i) nan) i nan h

-- the entry of a matrix that lies in a list
pub at_part : (w : List Float) (o r c i j : ℕ) → i < r → j < c → at c (part w o (r * c)) i j ≡ get_or w (o + (i * c + j)) nan
unfolding at
at_part w o r c i j hi hj = get_d_part w o (r * c) (i * c + j) (index_lt hi hj)

-- ---- a list with a part replaced

pub length-put : (w : List Float) (o : ℕ) (xs : List Float) → length (put w o xs) ≡ length w
unfolding put
length-put w o xs = length-sets w o xs

pub put-append : (w : List Float) (o : ℕ) (xs ys : List Float) → put w o (xs ++ ys) ≡ put (put w o xs) (o + length xs) ys
unfolding put
put-append w o [] ys = ap (λ (k : ℕ). sets w k ys) (sym (add-zero o))
put-append w o (x ∷ xs) ys =
    put-append (set w o x) (suc o) xs ys
    ∙ ap (λ (k : ℕ). sets (sets (set w o x) (suc o) xs) k ys) (suc-add o (length xs) ∙ sym (add-suc o (length xs)))

put_one : (w : List Float) (o : ℕ) (x : Float) → put w o (x ∷ []) ≡ set w o x
unfolding put
put_one w o x = refl

-- the store of one more entry
pub put_tab_suc : (w : List Float) (o k : ℕ) (f : ℕ → Float) → set (put w o (tab k f)) (o + k) (f k) ≡ put w o (tab (suc k) f)
put_tab_suc w o k f =
    sym (ap (put w o) (tab_suc k f) ∙ put-append w o (tab k f) (f k ∷ []) ∙ ap (λ (n : ℕ). put (put w o (tab k f)) (o + n) (f k ∷ [])) (length-tab k f) ∙ put_one (put w o (tab k f)) (o + k) (f k))

-- one more row
pub put_grid_suc : (w : List Float) (o r c : ℕ) (f : ℕ → ℕ → Float) → put (put w o (grid r c f)) (o + r * c) (tab c (f r)) ≡ put w o (grid (suc r) c f)
put_grid_suc w o r c f =
    sym (ap (put w o) (grid_suc r c f) ∙ put-append w o (grid r c f) (tab c (f r)) ∙ ap (λ (n : ℕ). put (put w o (grid r c f)) (o + n) (tab c (f r))) (length-grid r c f))

-- none yet, and the same two at k + 1, as a loop counts
pub put-none : (w : List Float) (o : ℕ) (f : ℕ → Float) → w ≡ put w o (tab 0 f)
unfolding put tab
put-none w o f = refl

pub put_no_row : (w : List Float) (o c : ℕ) (f : ℕ → ℕ → Float) → w ≡ put w o (grid 0 c f)
unfolding put grid
put_no_row w o c f = refl

pub put_tab_more : (w : List Float) (o k : ℕ) (f : ℕ → Float) → set (put w o (tab k f)) (o + k) (f k) ≡ put w o (tab (k + 1) f)
put_tab_more w o k f = rw add-one (put_tab_suc w o k f)

pub put_grid_more : (w : List Float) (o r c : ℕ) (f : ℕ → ℕ → Float) → put (put w o (grid r c f)) (o + r * c) (tab c (f r)) ≡ put w o (grid (r + 1) c f)
put_grid_more w o r c f = rw add-one (put_grid_suc w o r c f)

-- reads outside and inside
pub get_or-put_before : (w : List Float) (o : ℕ) (xs : List Float) (i : ℕ) (d : Float) → i < o → get_or (put w o xs) i d ≡ get_or w i d
unfolding put
get_or-put_before w o [] i d h = refl
get_or-put_before w o (x ∷ xs) i d h = get_or-put_before (set w o x) (suc o) xs i d (omega arith) ∙ get_or-set_other w o i x d (ne_of_lt h)

pub get_or-put_after : (w : List Float) (o : ℕ) (xs : List Float) (i : ℕ) (d : Float) → o + length xs ≤ i → get_or (put w o xs) i d ≡ get_or w i d
unfolding put
get_or-put_after w o [] i d h = refl
get_or-put_after w o (x ∷ xs) i d h = get_or-put_after (set w o x) (suc o) xs i d (omega arith) ∙ get_or-set_other w o i x d (ne_of_gt (omega arith))

pub get_or-put_in : (w : List Float) (o : ℕ) (xs : List Float) (i : ℕ) (d : Float) → i < length xs → o + length xs ≤ length w → get_or (put w o xs) (o + i) d ≡ get_or xs i d
unfolding put
get_or-put_in w o [] i d h l = absurd (not-suc-le-zero h)
get_or-put_in w o (x ∷ xs) zero d h l =
    rw add-zero (get_or-put_before (set w o x) (suc o) xs o d (omega arith) ∙ get_or-set_same w o x d (omega arith))
get_or-put_in w o (x ∷ xs) (suc i) d h l =
    let e : o + suc i ≡ suc o + i = omega arith in
    rw e (get_or-put_in (set w o x) (suc o) xs i d (le_of_suc-le-suc h) (rw length-set (omega arith)))

-- reads of places that are apart from what is replaced
pub get_or-put_apart : (w : List Float) (y m : ℕ) (xs : List Float) (x k i : ℕ) (d : Float) → Apart x k y m → length xs ≤ m → i < k → get_or (put w y xs) (x + i) d ≡ get_or w (x + i) d
get_or-put_apart w y m xs x k i d h l b = ⊎_elim (λ p. get_or-put_before w y xs (x + i) d (omega arith)) (λ p. get_or-put_after w y xs (x + i) d (omega arith)) h

pub part_put_apart : (w : List Float) (y m : ℕ) (xs : List Float) (x k : ℕ) → Apart x k y m → length xs ≤ m → part (put w y xs) x k ≡ part w x k
unfolding part
part_put_apart w y m xs x k h l = tab_cong k (λ i. get_or (put w y xs) (x + i) nan) (λ i. get_or w (x + i) nan) (λ i b. get_or-put_apart w y m xs x k i nan h l b)

pub part_put : (w : List Float) (o : ℕ) (xs : List Float) (k : ℕ) → length xs ≡ k → o + k ≤ length w → part (put w o xs) o k ≡ xs
part_put w o xs k e b =
    let l : length (part (put w o xs) o k) ≡ k = length_part (put w o xs) o k in
    ext_get_or nan (part (put w o xs) o k) xs (l ∙ sym e)
    (λ i q. let i<k : i < k = omega arith in
    get_d_part (put w o xs) o k i i<k ∙ get_or-put_in w o xs i nan (omega arith) (omega arith))

-- parts of parts that are apart are apart
pub apart_within : (x k y m x' k' y' m' : ℕ) → Apart x k y m → x ≤ x' → x' + k' ≤ x + k → y ≤ y' → y' + m' ≤ y + m → Apart x' k' y' m'
apart_within x k y m x' k' y' m' h p q r s = ⊎_elim (λ e. inl (omega arith)) (λ e. inr (omega arith)) h

-- a store of one more entry, whatever the code computes it from
pub put-store : (w : List Float) (o k : ℕ) (F : ℕ → Float) (v : Float) → v ≡ F k → set (put w o (tab k F)) (o + k) v ≡ put w o (tab (k + 1) F)
put-store w o k F v e = ap (set (put w o (tab k F)) (o + k)) e ∙ put_tab_more w o k F

-- a read of entry k of another part, or of the entry that is written next
pub read_apart : (w : List Float) (y k : ℕ) (F : ℕ → Float) (x m : ℕ) → Apart x m y m → k < m → get_or (put w y (tab k F)) (x + k) nan ≡ get_or w (x + k) nan
read_apart w y k F x m h b = get_or-put_apart w y m (tab k F) x m k nan h (omega (arith, length-tab k F)) b

pub read_next : (w : List Float) (y k : ℕ) (F : ℕ → Float) → get_or (put w y (tab k F)) (y + k) nan ≡ get_or w (y + k) nan
read_next w y k F = get_or-put_after w y (tab k F) (y + k) nan (omega (arith, length-tab k F))

-- a table over the numbers of two parts
pub tab_parts : (w : List Float) (x y m : ℕ) (g : Float → Float → Float) → tab m (λ k. g (get_or (part w x m) k nan) (get_or (part w y m) k nan)) ≡ tab m (λ k. g (get_or w (x + k) nan) (get_or w (y + k) nan))
tab_parts w x y m g = tab_cong m _ _ (λ k h i. g (get_d_part w x m k h i) (get_d_part w y m k h i))

-- a store of one number: the n numbers from o on, of which only number r is another
pub set-put : (w : List Float) (o n r : ℕ) (F : ℕ → Float) (v : Float) → r < n → o + n ≤ length w → v ≡ F r → ((j : ℕ) → j < n → (r ≡ j → ⊥) → get_or w (o + j) nan ≡ F j) → set w (o + r) v ≡ put w o (tab n F)
set-put w o n r F v h l e rest =
    ext_get_or nan (set w (o + r) v) (put w o (tab n F)) (length-set w (o + r) v ∙ sym (length-put w o (tab n F)))
    (λ i b. go i (split i o) (split i (o + n)))
  where
    size : length (tab n F) ≡ n
    size = length-tab n F

    inside : (j : ℕ) → j < n → (r ≡ j) ⊎ (r ≡ j → ⊥) → get_or (set w (o + r) v) (o + j) nan ≡ F j
    inside j b (inl q) = rw (← q) (get_or-set_same w (o + r) v nan (omega arith) ∙ e)
    inside j b (inr q) = get_or-set_other w (o + r) (o + j) v nan (λ k. q (omega arith)) ∙ rest j b q

    go : (i : ℕ) → (i < o) ⊎ (o ≤ i) → (i < o + n) ⊎ (o + n ≤ i) → get_or (set w (o + r) v) i nan ≡ get_or (put w o (tab n F)) i nan
    go i (inl a) q = get_or-set_other w (o + r) i v nan (omega arith) ∙ sym (get_or-put_before w o (tab n F) i nan a)
    go i (inr a) (inr b) = get_or-set_other w (o + r) i v nan (omega arith) ∙ sym (get_or-put_after w o (tab n F) i nan (omega (arith, size)))
    go i (inr a) (inl b) =
        let q : i ≡ o + (i - o) = omega arith in
        rw q (inside (i - o) (omega arith) (same_or_not r (i - o)) ∙ sym (get_or-put_in w o (tab n F) (i - o) nan (omega (arith, size)) (omega (arith, size)) ∙ get_or-tab n F (i - o) nan (omega arith)))

-- a whole list replaced
pub put_all : (w xs : List Float) → length xs ≡ length w → put w 0 xs ≡ xs
unfolding put
put_all w xs e =
    let h : length w ≤ length xs = omega arith in
    sets-eq xs w 0 (omega arith) ∙ rw (zero-add, drop_of_length-le w h) (append-nil xs)

-- the store where the part begins at 0, and the code has no sum
pub put_store0 : (w : List Float) (k : ℕ) (F : ℕ → Float) (v : Float) → v ≡ F k → set (put w 0 (tab k F)) k v ≡ put w 0 (tab (k + 1) F)
put_store0 w k F v e = rw zero-add at (put-store w 0 k F v e)

-- the same parts the other way round
pub apart_sym : (x k y m : ℕ) → Apart x k y m → Apart y m x k
apart_sym x k y m h = ⊎_elim (λ u. inr u) (λ u. inl u) h

-- a part as it was, and a part that is replaced twice
pub put-part : (w : List Float) (o k : ℕ) → o + k ≤ length w → put w o (part w o k) ≡ w
put-part w o k h =
    ext_get_or nan (put w o (part w o k)) w (length-put w o (part w o k))
    (λ i b. go i (split i o) (split i (o + k)))
  where
    size : length (part w o k) ≡ k
    size = length_part w o k

    go : (i : ℕ) → (i < o) ⊎ (o ≤ i) → (i < o + k) ⊎ (o + k ≤ i) → get_or (put w o (part w o k)) i nan ≡ get_or w i nan
    go i (inl a) q = get_or-put_before w o (part w o k) i nan a
    go i (inr a) (inr b) = get_or-put_after w o (part w o k) i nan (omega (arith, size))
    go i (inr a) (inl b) =
        let e : i ≡ o + (i - o) = omega arith in
        ap (λ (q : ℕ). get_or (put w o (part w o k)) q nan) e
        ∙ get_or-put_in w o (part w o k) (i - o) nan (omega (arith, size)) (omega (arith, size))
        ∙ get_d_part w o k (i - o) (omega arith)
        ∙ ap (λ (q : ℕ). get_or w q nan) (sym e)

pub put-put : (w : List Float) (o : ℕ) (xs ys : List Float) → length xs ≡ length ys → o + length ys ≤ length w → put (put w o xs) o ys ≡ put w o ys
put-put w o xs ys e h =
    ext_get_or nan (put (put w o xs) o ys) (put w o ys) (length-put (put w o xs) o ys ∙ length-put w o xs ∙ sym (length-put w o ys))
    (λ i b. go i (split i o) (split i (o + length ys)))
  where
    long : length (put w o xs) ≡ length w
    long = length-put w o xs

    go : (i : ℕ) → (i < o) ⊎ (o ≤ i) → (i < o + length ys) ⊎ (o + length ys ≤ i) → get_or (put (put w o xs) o ys) i nan ≡ get_or (put w o ys) i nan
    go i (inl a) q = get_or-put_before (put w o xs) o ys i nan a ∙ get_or-put_before w o xs i nan a ∙ sym (get_or-put_before w o ys i nan a)
    go i (inr a) (inr b) = get_or-put_after (put w o xs) o ys i nan b ∙ get_or-put_after w o xs i nan (omega arith) ∙ sym (get_or-put_after w o ys i nan b)
    go i (inr a) (inl b) =
        let q : i ≡ o + (i - o) = omega arith in
        rw q (get_or-put_in (put w o xs) o ys (i - o) nan (omega arith) (omega (arith, long)) ∙ sym (get_or-put_in w o ys (i - o) nan (omega arith) h))

-- ---- a part that is lent, `&s[o..o + n]` or `&mut s[o..o + n]`

-- what is lent
pub lent : (w : List Float) (o n : ℕ) → o + n ≤ length w → take (o + n - o) (drop o w) ≡ part w o n
lent w o n h =
    let e : o + n - o ≡ n = omega arith in
    let l : length (take n (drop o w)) ≡ n = simp (length-take, length-drop) (omega arith) in
    rw e
    (ext_get_or nan (take n (drop o w)) (part w o n) (l ∙ sym (length_part w o n))
    (λ i b. let i<n : i < n = omega arith in get_or-take n (drop o w) i nan i<n ∙ get_or-drop o w i nan ∙ sym (get_d_part w o n i i<n)))

-- what the whole is once the part is back
pub returned : (w ys : List Float) (o n : ℕ) → length ys ≡ n → o + n ≤ length w → put_mid o (o + n - o) w ys ≡ put w o ys
unfolding put
returned w ys o n e h =
    let b : o + length ys ≤ length w = omega arith in
    let q : o + n ≡ o + length ys = omega arith in
    ap (λ (l : List Float). take o w ++ (ys ++ l)) (Post-is o (o + n) w (omega arith) ∙ ap (λ (k : ℕ). drop k w) q)
    ∙ sym (append_assoc (take o w) ys (drop (o + length ys) w)) ∙ sym (sets-eq ys w o b)

-- all of a list is a part of it
pub part_all : (x : List Float) (k : ℕ) → length x ≡ k → part x 0 k ≡ x
unfolding part
part_all x k e = sym (tab_is nan k (λ i. item x (0 + i)) x e (λ i h. ap (item x) (sym (zero-add i))))

-- a part that begins at o
pub take_part : (w : List Float) (o k : ℕ) → o + k ≤ length w → take k (drop o w) ≡ part w o k
take_part w o k h = let e : k ≡ o + k - o = omega arith in ap (λ (m : ℕ). take m (drop o w)) e ∙ lent w o k h

pub take_rest : (w : List Float) (o : ℕ) → take (length w - o) (drop o w) ≡ drop o w
take_rest w o = take_all (length w - o) (drop o w) (omega (arith, length-drop o w))

pub rest_length : (w : List Float) (o : ℕ) → length (take (length w - o) (drop o w)) ≡ length w - o
rest_length w o = ap length (take_rest w o) ∙ length-drop o w
