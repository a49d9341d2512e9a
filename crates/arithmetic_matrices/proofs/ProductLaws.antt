-- Laws of sums, products and multiples of matrices. Assumes nothing.
use Prim.Native.Nat.{ℕ, zero, suc, ◌+◌, ◌*◌, ◌<◌, ◌≤◌}
use native.Mathlib.Nat.{zero-add, suc-add, add_assoc, mul_comm}
use native.Mathlib.Numerals.{add-one}
use native.Mathlib.Omega.{arith}
use mathlib.Core.Path.{◌≡◌, refl, sym, ◌∙◌, ap}
use mathlib.Core.List.{List, ◌∷◌, ◌++◌}
use mathlib.Core.Bool.{Bool, true, false, cond}
use lib.Dec.{T, eqb}
use lib.ListN.{length, get_or, set}
use lib.Ieee.{Float, nan, inf, fin, Format, unlike, up, down, round, add, sub, mul, fits, of_bits}
use lib.Ieee.Fits.{add-fits}
use borrow.Author.Tests.{eq-eqb, ne_eqb}
use Rattle.arithmetic_floats.specs.Float.{one}
use Rattle.arithmetic_floats.proofs.Constants.{+zero_bits}
use Rattle.arithmetic_floats.proofs.Zero.{zero_fits}
use Rattle.arithmetic_matrices.specs.Matrix.{tab, grid, at, part, put, Apart, item}
use Rattle.arithmetic_matrices.specs.Product.{sum, dot, mul_m, times_m, add_multiple_m, deduct_m, zero_m, add_m, sub_m, mean_m, difference_quotient_m, diagonal_m, identity_m, minus_identity_entry, minus_identity_m, transpose_m, squared}
use Rattle.arithmetic_matrices.specs.Kernels.{row_dot}
use Rattle.arithmetic_matrices.proofs.MatrixLaws.{tab_cong, length-tab, length-grid, grid_cong, row_end, index_lt, get_or-tab}
use Rattle.arithmetic_matrices.proofs.PartLaws.{at_part, length-put, put-append, get_or-put_after, get_or-put_apart, put_grid_more, apart_within, tab_parts, set-put}

-- ---- sums

-- a sum starts at the code's 0.0
pub sum_none : (f : Format) (g : ℕ → Float) → of_bits f 0 ≡ sum f 0 g
unfolding sum
sum_none f g = +zero_bits f

pub sum_more : (f : Format) (k : ℕ) (g : ℕ → Float) → sum f (k + 1) g ≡ add f (sum f k g) (g k)
unfolding sum
sum_more f k g = rw add-one refl

pub sum_cong : (f : Format) (k : ℕ) (g h : ℕ → Float) → ((i : ℕ) → i < k → g i ≡ h i) → sum f k g ≡ sum f k h
unfolding sum
sum_cong f zero g h e = refl
sum_cong f (suc k) g h e = λ i. add f (sum_cong f k g h (λ j b. e j (omega arith)) i) (e k (omega arith) i)

-- the format holds a sum, whatever it adds
pub sum_fits : (f : Format) (k : ℕ) (g : ℕ → Float) → T (fits f (sum f k g))
unfolding sum
sum_fits f zero g = zero_fits f false
sum_fits f (suc k) g = add-fits f (sum f k g) (g k)

-- ---- sums of products

pub dot_more : (f : Format) (k : ℕ) (a b : ℕ → Float) → dot f (k + 1) a b ≡ add f (dot f k a b) (mul f (a k) (b k))
unfolding dot
dot_more f k a b = sum_more f k _

pub dot_cong : (f : Format) (k : ℕ) (a b a' b' : ℕ → Float) → ((i : ℕ) → i < k → a i ≡ a' i) → ((i : ℕ) → i < k → b i ≡ b' i) → dot f k a b ≡ dot f k a' b'
unfolding dot
dot_cong f k a b a' b' p q = sum_cong f k _ _ (λ i h j. mul f (p i h j) (q i h j))

-- a product reads nothing of what is replaced apart from it
pub row_dot_kept : (f : Format) (n : ℕ) (w : List Float) (x b j y m : ℕ) (xs : List Float) → j < n → Apart x n y m → Apart b (n * n) y m → length xs ≤ m → row_dot f n (put w y xs) x (put w y xs) b j ≡ row_dot f n w x w b j
unfolding row_dot
row_dot_kept f n w x b j y m xs hj hx hb l =
    dot_cong f n (λ k. get_or (put w y xs) (x + k) nan) (λ k. get_or (put w y xs) (b + (k * n + j)) nan) (λ k. get_or w (x + k) nan) (λ k. get_or w (b + (k * n + j)) nan)
    (λ k h. get_or-put_apart w y m xs x n k nan hx l h)
    (λ k h. get_or-put_apart w y m xs b (n * n) (k * n + j) nan hb l (index_lt h hj))

pub tab_row_dot_kept : (f : Format) (n : ℕ) (w : List Float) (x b y m : ℕ) (xs : List Float) → Apart x n y m → Apart b (n * n) y m → length xs ≤ m → tab n (row_dot f n (put w y xs) x (put w y xs) b) ≡ tab n (row_dot f n w x w b)
tab_row_dot_kept f n w x b y m xs hx hb l = tab_cong n (row_dot f n (put w y xs) x (put w y xs) b) (row_dot f n w x w b) (λ j h. row_dot_kept f n w x b j y m xs h hx hb l)

-- the first k products of the row at x and column j of the n by n matrix at b
abbrev pub col_dot : Format → ℕ → ℕ → List Float → ℕ → ℕ → ℕ → Float
col_dot f k n w x b j = dot f k (λ i. item w (x + i)) (λ i. item w (b + (i * n + j)))

-- all of the products
pub dot_done : (f : Format) (k n : ℕ) (w : List Float) (x b j : ℕ) (s : Float) → k ≡ n → s ≡ col_dot f k n w x b j → s ≡ row_dot f n w x w b j
unfolding row_dot
dot_done f k n w x b j s h e = rw h at e

-- the first entry of a table stored
pub put_first : (w : List Float) (o : ℕ) (F : ℕ → Float) (v : Float) → v ≡ F 0 → set w o v ≡ put w o (tab 1 F)
unfolding put tab
put_first w o F v e = ap (set w o) e

-- a table in two parts
tab-plus : (k m : ℕ) (F : ℕ → Float) → tab (k + m) F ≡ tab k F ++ tab m (λ t. F (k + t))
unfolding tab
tab-plus zero m F = rw zero-add (tab_cong m F (λ t. F (0 + t)) (λ t h. rw zero-add))
tab-plus (suc k) m F =
    rw suc-add
    (ap (λ (l : List Float). F zero ∷ l) (tab-plus k m (λ i. F (suc i)) ∙ ap (λ (l : List Float). tab k (λ i. F (suc i)) ++ l) (tab_cong m (λ t. F (suc (k + t))) (λ t. F (suc k + t)) (λ t h. rw suc-add))))

-- m more entries
pub put_more : (m : ℕ) (w : List Float) (o k : ℕ) (F : ℕ → Float) → put (put w o (tab k F)) (o + k) (tab m (λ t. F (k + t))) ≡ put w o (tab (k + m) F)
put_more m w o k F =
    sym (ap (put w o) (tab-plus k m F) ∙ put-append w o (tab k F) (tab m (λ t. F (k + t))) ∙ ap (λ (e : ℕ). put (put w o (tab k F)) (o + e) (tab m (λ t. F (k + t)))) (length-tab k F))

-- m more entries of a row of a product, written after the first k, which they do not read
pub row_dot_more : (f : Format) (n : ℕ) (w : List Float) (x b y k m : ℕ) → k + m ≤ n → Apart x n y n → Apart b (n * n) y n
    → let R : ℕ → Float = row_dot f n w x w b in
    let u : List Float = put w y (tab k R) in put u (y + k) (tab m (λ t. row_dot f n u x u b (k + t))) ≡ put w y (tab (k + m) R)
row_dot_more f n w x b y k m h hx hb =
    let R : ℕ → Float = row_dot f n w x w b in
    let u : List Float = put w y (tab k R) in
    ap (put u (y + k)) (tab_cong m _ (λ t. R (k + t)) (λ t q. row_dot_kept f n w x b (k + t) y n (tab k R) (omega arith) hx hb (omega (arith, length-tab k R))))
    ∙ put_more m w y k R

-- the product of two matrices that lie in one list, row by row
pub mul_m_parts : (f : Format) (n : ℕ) (w : List Float) (a b : ℕ) → mul_m f n (part w a (n * n)) (part w b (n * n)) ≡ grid n n (λ i. row_dot f n w (a + i * n) w b)
unfolding mul_m row_dot
mul_m_parts f n w a b =
    grid_cong n n (λ i j. dot f n (at n (part w a (n * n)) i) (λ k. at n (part w b (n * n)) k j)) (λ i j. row_dot f n w (a + i * n) w b j)
    (λ i j hi hj. dot_cong f n (at n (part w a (n * n)) i) (λ k. at n (part w b (n * n)) k j) (λ k. get_or w (a + i * n + k) nan) (λ k. get_or w (b + (k * n + j)) nan)
    (λ k hk. at_part w a n n i k hi hk ∙ ap (λ (t : ℕ). get_or w t nan) (sym (add_assoc a (i * n) k)))
    (λ k hk. at_part w b n n k j hk hj))

-- row i of a product, written after the i rows before it, which it does not read
pub mul_m_row : (f : Format) (n : ℕ) (w : List Float) (a b c i : ℕ) → i < n → Apart a (n * n) c (n * n) → Apart b (n * n) c (n * n)
    → let G : ℕ → ℕ → Float = λ k. row_dot f n w (a + k * n) w b in
    put (put w c (grid i n G)) (c + i * n) (tab n (row_dot f n (put w c (grid i n G)) (a + i * n) (put w c (grid i n G)) b)) ≡ put w c (grid (i + 1) n G)
mul_m_row f n w a b c i hi ha hb =
    let G : ℕ → ℕ → Float = λ k. row_dot f n w (a + k * n) w b in
    let r : i * n + n ≤ n * n = row_end i n n hi in
    rw (tab_row_dot_kept f n w (a + i * n) b c (n * n) (grid i n G) (apart_within a (n * n) c (n * n) (a + i * n) n c (n * n) ha (omega arith) (omega arith) (omega arith) (omega arith)) hb (omega (arith, length-grid i n G)))
    (put_grid_more w c i n G)

pub length-mul_m : (f : Format) (n : ℕ) (a b : List Float) → length (mul_m f n a b) ≡ n * n
unfolding mul_m
length-mul_m f n a b = length-grid n n _

-- ---- products of two numbers, differences of matrices that lie in one list

unlike_comm : (s t : Bool) → unlike s t ≡ unlike t s
unlike_comm false false = refl
unlike_comm false true = refl
unlike_comm true false = refl
unlike_comm true true = refl

-- a product does not depend on the order of its factors: a NaN is one value
pub product_comm : (f : Format) (x y : Float) → mul f x y ≡ mul f y x
unfolding mul
product_comm f nan nan = refl
product_comm f nan (inf t) = refl
product_comm f nan (fin t n d) = refl
product_comm f (inf s) nan = refl
product_comm f (inf s) (inf t) = ap inf (unlike_comm s t)
product_comm f (inf s) (fin t n d) = ap (λ (b : Bool). cond (eqb n 0) nan (inf b)) (unlike_comm s t)
product_comm f (fin s m e) nan = refl
product_comm f (fin s m e) (inf t) = ap (λ (b : Bool). cond (eqb m 0) nan (inf b)) (unlike_comm s t)
product_comm f (fin s m e) (fin t n d) = λ i. round f (unlike_comm s t i) (mul_comm (m * up e) (n * up d) i) (mul_comm (down e) (down d) i)

pub sub_m_parts : (f : Format) (n : ℕ) (w : List Float) (x y : ℕ) → sub_m f n (part w x (n * n)) (part w y (n * n)) ≡ tab (n * n) (λ k. sub f (item w (x + k)) (item w (y + k)))
unfolding sub_m
sub_m_parts f n w x y = tab_parts w x y (n * n) (sub f)

-- ---- the identity taken from a matrix

pub minus_identity_m_part : (f : Format) (n : ℕ) (w : List Float) (x : ℕ) → minus_identity_m f n (part w x (n * n)) ≡ grid n n (λ i j. minus_identity_entry f i j (item w (x + (i * n + j))))
unfolding minus_identity_m
minus_identity_m_part f n w x = grid_cong n n _ _ (λ i j hi hj. ap (minus_identity_entry f i j) (at_part w x n n i j hi hj))

-- one is taken from the diagonal entry of row i, after the i rows before it
pub minus_identity_row : (f : Format) (n : ℕ) (w : List Float) (x i : ℕ) → i < n → x + n * n ≤ length w
    → let G : ℕ → ℕ → Float = λ r j. minus_identity_entry f r j (item w (x + (r * n + j))) in
    let u : List Float = put w x (grid i n G) in set u (x + (i * n + i)) (sub f (item u (x + (i * n + i))) one) ≡ put w x (grid (i + 1) n G)
unfolding minus_identity_entry
minus_identity_row f n w x i h l =
    ap (λ (q : ℕ). set u q (sub f (item u (x + (i * n + i))) one)) (sym (add_assoc x (i * n) i))
    ∙ set-put u (x + i * n) n i (G i) _ h (omega (arith, row_end i n n h, length-put w x (grid i n G))) diagonal rest
    ∙ put_grid_more w x i n G
  where
    G : ℕ → ℕ → Float
    G r j = minus_identity_entry f r j (item w (x + (r * n + j)))

    u : List Float
    u = put w x (grid i n G)

    kept : (j : ℕ) → item u (x + (i * n + j)) ≡ item w (x + (i * n + j))
    kept j = get_or-put_after w x (grid i n G) (x + (i * n + j)) nan (omega (arith, length-grid i n G))

    diagonal : sub f (item u (x + (i * n + i))) one ≡ G i i
    diagonal = rw (kept i, eq-eqb i i refl)

    rest : (j : ℕ) → j < n → (i ≡ j → ⊥) → item u (x + i * n + j) ≡ G i j
    rest j b q = rw (add_assoc x (i * n) j, kept j, ne_eqb i j q)

-- ---- lengths

pub length-times_m : (f : Format) (n : ℕ) (by : Float) (a : List Float) → length (times_m f n by a) ≡ n * n
unfolding times_m
length-times_m f n by a = length-tab (n * n) _

pub length-add_m : (f : Format) (n : ℕ) (a b : List Float) → length (add_m f n a b) ≡ n * n
unfolding add_m
length-add_m f n a b = length-tab (n * n) _

pub length-mean_m : (f : Format) (n : ℕ) (a b : List Float) → length (mean_m f n a b) ≡ n * n
unfolding mean_m
length-mean_m f n a b = length-tab (n * n) _

pub length-deduct_m : (f : Format) (n : ℕ) (by : Float) (p c : List Float) → length (deduct_m f n by p c) ≡ n * n
unfolding deduct_m
length-deduct_m f n by p c = length-tab (n * n) _

pub length-difference_quotient_m : (f : Format) (n : ℕ) (h : Float) (a b : List Float) → length (difference_quotient_m f n h a b) ≡ n * n
unfolding difference_quotient_m
length-difference_quotient_m f n h a b = length-tab (n * n) _

pub length-diagonal_m : (n : ℕ) (d : Float) → length (diagonal_m n d) ≡ n * n
unfolding diagonal_m
length-diagonal_m n d = length-grid n n _

pub length-identity_m : (n : ℕ) → length (identity_m n) ≡ n * n
unfolding identity_m
length-identity_m n = length-diagonal_m n one

pub length-minus_identity_m : (f : Format) (n : ℕ) (a : List Float) → length (minus_identity_m f n a) ≡ n * n
unfolding minus_identity_m
length-minus_identity_m f n a = length-grid n n _

pub length-transpose_m : (n : ℕ) (a : List Float) → length (transpose_m n a) ≡ n * n
unfolding transpose_m
length-transpose_m n a = length-grid n n _

pub length-squared : (f : Format) (n : ℕ) (a : List Float) → length a ≡ n * n → (s : ℕ) → length (squared f n s a) ≡ n * n
unfolding squared
length-squared f n a h zero = h
length-squared f n a h (suc s) = length-mul_m f n (squared f n s a) (squared f n s a)

pub squared_more : (f : Format) (n s : ℕ) (a : List Float) → squared f n (s + 1) a ≡ mul_m f n (squared f n s a) (squared f n s a)
unfolding squared
squared_more f n s a = rw add-one refl

pub length-add_multiple_m : (f : Format) (n : ℕ) (by : Float) (p c : List Float) → length (add_multiple_m f n by p c) ≡ n * n
unfolding add_multiple_m
length-add_multiple_m f n by p c = length-tab (n * n) _

pub length-zero_m : (n : ℕ) → length (zero_m n) ≡ n * n
unfolding zero_m
length-zero_m n = length-tab (n * n) _

-- entry (i, j) of a table over the places of a matrix
pub at-tab : (n : ℕ) (g : ℕ → Float) (i j : ℕ) → i < n → j < n → at n (tab (n * n) g) i j ≡ g (i * n + j)
unfolding at
at-tab n g i j p q = get_or-tab (n * n) g (i * n + j) nan (index_lt p q)
