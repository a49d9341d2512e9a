-- What the code's steps of LU leave. Only the contracts of kernels cite it. Definitions only.
use Rattle.std.specs.Prelude.{ℕ, ◌*◌, cond, List, leb, Float, ◌≡◌, Ok, Err}
use Rattle.std.specs.Float.{Format}
use Rattle.std.specs.Float.Ieee.{mul, sub}
use Rattle.arithmetic_floats.specs.Float.{magnitude}
use Rattle.arithmetic_matrices.specs.Matrix.{at, part, put, grid, item, column}
use Rattle.arithmetic_matrices.specs.Norm.{smallest}
use Rattle.arithmetic_matrices.specs.Kernels.{patch}
use Rattle.lu_factoring.specs.Lu.{LuOutcome, lu_at, lu_pivot, lu_outcome, lu_factors, lu_pivots}
use Rattle.lu_factoring.specs.Solve.{less_term, solved_matrix}

-- row i less x times row k, to the right of column k
unfoldable pub subtracted : Format → ℕ → ℕ → ℕ → Float → List Float → ℕ → Float
subtracted f n k i x a j = cond (leb j k) (at n a i j) (sub f (at n a i j) (mul f x (at n a k j)))

-- how many columns are done: all n, or those before the one that was refused
abbrev pub columns_done : ℕ → LuOutcome → ℕ
columns_done n (Ok _) = n
columns_done n (Err bad) = bad.column

-- What factoring the n by n matrix a ends with: the outcome r, the matrix a' after the columns that passed, and their pivots in ps', a list whose other
-- elements are those of ps.
pub record LuDone (f : Format) (n : ℕ) (a : List Float) (ps : List ℕ) (a' : List Float) (ps' : List ℕ) (r : LuOutcome) : Type 0 where
  pub outcome : r ≡ lu_outcome f n a
  pub factors : a' ≡ lu_at f n a (columns_done n r)
  pub pivots : ps' ≡ patch 0 (columns_done n r) (lu_pivot f n a) ps

-- The same where the matrix stands in a longer list w from index off: the rest of w is unchanged.
pub record LuDoneIn (f : Format) (n off : ℕ) (w : List Float) (ps : List ℕ) (w' : List Float) (ps' : List ℕ) (r : LuOutcome) : Type 0 where
  pub outcome : r ≡ lu_outcome f n (part w off (n * n))
  pub factors : w' ≡ put w off (lu_at f n (part w off (n * n)) (columns_done n r))
  pub pivots : ps' ≡ patch 0 (columns_done n r) (lu_pivot f n (part w off (n * n))) ps

-- x(i) less F(i, k) * x(k)
abbrev pub lowered : Format → ℕ → List Float → ℕ → List Float → ℕ → Float
lowered f n F k x = less_term f n F k (item x k) x

-- the matrix whose columns are g of the columns of b
unfoldable pub each_column : ℕ → ℕ → (List Float → List Float) → List Float → List Float
unfolding column
each_column n m g b = grid n m (λ r c. item (g (column n m b c)) r)

-- The workspace w after the matrix of order n at `left` is factored and, where all its columns pass, the right-hand matrix of m columns at `right` is
-- solved. The last argument is the outcome.
unfoldable pub divided : Format → ℕ → ℕ → ℕ → ℕ → List Float → LuOutcome → List Float
divided f n m left right w (Ok _) =
    let a = part w left (n * n) in
    put (put w left (lu_factors f n a)) right (solved_matrix f n m (lu_factors f n a) (lu_pivots f n a) (part w right (n * m)))
divided f n m left right w (Err bad) = put w left (lu_at f n (part w left (n * n)) bad.column)

-- the smallest pivot as the code reads it off the factors m, whose diagonal holds the pivots
unfoldable pub diagonal_smallest : ℕ → List Float → Float
unfolding smallest
diagonal_smallest n m = smallest n (λ k. magnitude (at n m k k))
