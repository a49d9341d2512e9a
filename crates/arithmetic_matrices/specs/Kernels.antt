-- What kernels leave that write a row, rows or a part of a list in place. Only the contracts of kernels cite it. Definitions only.
use Rattle.std.specs.Prelude.{ℕ, zero, suc, ◌+◌, ◌-◌, ◌*◌, ◌/◌, ◌%◌, cond, ◌&&◌, List, [], ◌∷◌, leb, ltb, Float, ◌≡◌}
use Rattle.std.specs.Float.{Format}
use Rattle.arithmetic_matrices.specs.Matrix.{tab, put, item}
use Rattle.arithmetic_matrices.specs.Product.{dot, squared}
use Rattle.arithmetic_matrices.specs.Workspace.{slot, member, Only}

-- w with r rows of c numbers, row i from place o + i * step on, its entry j being g i j
unfoldable pub put_rows : List Float → ℕ → ℕ → ℕ → ℕ → (ℕ → ℕ → Float) → List Float
put_rows w o step zero c g = w
put_rows w o step (suc r) c g = put (put_rows w o step r c g) (o + r * step) (tab c (g r))

-- each element x of a list, at its index i, becomes g i x
unfoldable pub map_indexed : {A : Type 0} → (ℕ → A → A) → List A → List A
map_indexed g [] = []
map_indexed g (x ∷ l) = g zero x ∷ map_indexed (λ i. g (suc i)) l

-- l with the elements from index lo up to, not including, hi replaced by g: element q becomes g q
unfoldable pub patch : {A : Type 0} → ℕ → ℕ → (ℕ → A) → List A → List A
unfolding map_indexed
patch lo hi g l = map_indexed (λ q x. cond (leb lo q && ltb q hi) (g q) x) l

-- a matrix of n columns whose row i is, in its first j columns, g: a row that is filled from the left
unfoldable pub row_to : ℕ → ℕ → (ℕ → Float) → List Float → ℕ → List Float
unfolding patch
row_to n i g a j = patch (i * n) (i * n + j) (λ q. g (q - i * n)) a

-- the matrix a of n columns with the row i replaced by g
unfoldable pub with_row : ℕ → ℕ → (ℕ → Float) → List Float → List Float
unfolding row_to
with_row n i g a = row_to n i g a n

-- a matrix of n columns whose first i rows are those of g: a matrix that is filled from the top
unfoldable pub rows_to : ℕ → (ℕ → ℕ → Float) → List Float → ℕ → List Float
unfolding patch
rows_to n g a i = patch 0 (i * n) (λ q. g (q / n) (q % n)) a

-- the row of n numbers of a from x on, times column j of the n by n matrix that begins in b at y
unfoldable pub row_dot : Format → ℕ → List Float → ℕ → List Float → ℕ → ℕ → Float
unfolding dot
row_dot f n a x b y j = dot f n (λ k. item a (x + k)) (λ k. item b (y + (k * n + j)))

-- what squaring s times leaves: the power in slot a, scratch in slot t, and the rest as it was
pub record Squared (f : Format) (n : ℕ) (w : List Float) (a t s : ℕ) (w' : List Float) : Type 0 where
  pub power : slot n w' a ≡ squared f n s (slot n w a)
  pub only : Only (member (a ∷ t ∷ [])) w w'

-- row k of the blocks (i, 0), (i, 1), .., side by side: its entry c, where block (i, j) has entry g i j k l at (k, l)
unfoldable pub block_row : ℕ → (ℕ → ℕ → ℕ → ℕ → Float) → ℕ → ℕ → ℕ → Float
block_row q g i k c = g i (c / q) k (c % q)
