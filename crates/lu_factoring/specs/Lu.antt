-- LU factoring with partial pivoting, column by column: Golub and Van Loan, Matrix Computations, the outer product form of Gaussian elimination
-- with partial pivoting (4th edition, Algorithm 3.4.1). All entries are those of one n by n matrix, a flat list by rows, and every operation rounds in
-- the format f. L, without its unit diagonal, and U share the list. What differs from the book is the source's:
--   - a multiplier is the entry times the rounded reciprocal of the pivot; the book divides by the pivot;
--   - a column whose pivot has a magnitude of at most epsilon * n is refused, and LU stops there; the test is absolute, whatever the matrix's norm. The
--     book has no tolerance and passes over a column whose pivot is 0;
--   - the pivot is the first of equal magnitudes; the book leaves the choice open;
--   - a NaN below row k never wins the search, one at row k stays the pivot, and a NaN pivot passes the test; the book has no NaN;
--   - the last column, which has no row below it, is tested too and has a pivot; the book ends before it;
--   - rows, columns and pivots count from 0;
--   - order 0 is accepted: no column, no pivot. Assumes nothing.
use Rattle.std.specs.Prelude.{ℕ, zero, suc, ◌+◌, ◌-◌, Bool, cond, List, pos, ltb, eqb, Float, ⊤, Result, Ok, Err}
use Rattle.std.specs.Float.{Format}
use Rattle.std.specs.Float.Ieee.{mul, sub, div, lt, le, of_int}
use Rattle.arithmetic_floats.specs.Float.{magnitude, one, epsilon}
use Rattle.arithmetic_matrices.specs.Matrix.{tab, at, grid}
use Rattle.lu_factoring.specs.declared.Singular.{Singular}

-- ---- one column

-- The row of the first largest magnitude in column k among the rows k, .., k + d. A NaN below row k never wins, and one at row k stays.
unfoldable pub pivot_among : ℕ → List Float → ℕ → ℕ → ℕ
pivot_among n a k zero = k
pivot_among n a k (suc d) =
    let p = pivot_among n a k d in
    let i = k + suc d in
    cond (lt (magnitude (at n a p k)) (magnitude (at n a i k))) i p

-- the pivot's row: among all the rows from k down
unfoldable pub pivot_row : ℕ → List Float → ℕ → ℕ
unfolding pivot_among
pivot_row n a k = pivot_among n a k (n - suc k)

-- epsilon * n, rounded
unfoldable pub tolerance : Format → ℕ → Float
tolerance f n = mul f (epsilon f) (of_int f (pos n))

-- column k is refused: the pivot's magnitude is at most the tolerance
unfoldable pub pivot_refused : Format → ℕ → List Float → ℕ → Bool
unfolding tolerance
pivot_refused f n a k = le (magnitude (at n a (pivot_row n a k) k)) (tolerance f n)

-- rows k and p change places
unfoldable pub exchange : ℕ → ℕ → ℕ → ℕ
exchange k p i = cond (eqb i k) p (cond (eqb i p) k i)

unfoldable pub swap_rows : ℕ → ℕ → ℕ → List Float → List Float
unfolding exchange
swap_rows n k p a = grid n n (λ i j. at n a (exchange k p i) j)

-- the reciprocal of the pivot, which stands in row k and column k
abbrev pub pivot_reciprocal : Format → ℕ → ℕ → List Float → Float
pivot_reciprocal f n k a = div f one (at n a k k)

-- the multiplier of row i: its entry in column k times the reciprocal t of the pivot
abbrev pub multiplier : Format → ℕ → ℕ → Float → List Float → ℕ → Float
multiplier f n k t a i = mul f (at n a i k) t

-- in column j, the multiple of row k that is subtracted from row i
abbrev pub multiple : Format → ℕ → ℕ → Float → List Float → ℕ → ℕ → Float
multiple f n k t a i j = mul f (multiplier f n k t a i) (at n a k j)

-- entry (i, j) less that
abbrev pub less_multiple : Format → ℕ → ℕ → Float → List Float → ℕ → ℕ → Float
less_multiple f n k t a i j = sub f (at n a i j) (multiple f n k t a i j)

-- row i below row k after the elimination of column k: the multiplier in column k, and right of it the entry less the multiple
unfoldable pub reduced : Format → ℕ → ℕ → Float → List Float → ℕ → ℕ → Float
reduced f n k t a i j = cond (ltb j k) (at n a i j) (cond (eqb j k) (multiplier f n k t a i) (less_multiple f n k t a i j))

-- entry (i, j) of any row after it: the rows down to row k are left alone
unfoldable pub eliminated_entry : Format → ℕ → ℕ → Float → List Float → ℕ → ℕ → Float
eliminated_entry f n k t a i j = cond (ltb k i) (reduced f n k t a i j) (at n a i j)

-- the matrix after the elimination of column k
unfoldable pub eliminated : Format → ℕ → ℕ → List Float → List Float
unfolding reduced eliminated_entry
eliminated f n k a = grid n n (eliminated_entry f n k (pivot_reciprocal f n k a) a)

-- ---- all columns

-- the matrix after k columns
unfoldable pub lu_at : Format → ℕ → List Float → ℕ → List Float
lu_at f n a zero = a
lu_at f n a (suc k) =
    let a' = lu_at f n a k in
    eliminated f n k (swap_rows n k (pivot_row n a' k) a')

-- the pivot of column k
unfoldable pub lu_pivot : Format → ℕ → List Float → ℕ → ℕ
lu_pivot f n a k = pivot_row n (lu_at f n a k) k

-- what factoring gives: each column passed, or column k was refused
abbrev pub LuOutcome : Type 0
LuOutcome = Result ⊤ Singular

abbrev pub singular : ℕ → LuOutcome
singular k = Err (record { column = k })

-- The d columns from k on: the first that is refused, or all pass.
unfoldable pub lu_from : Format → ℕ → List Float → ℕ → ℕ → LuOutcome
lu_from f n a zero k = Ok tt
lu_from f n a (suc d) k = cond (pivot_refused f n (lu_at f n a k) k) (singular k) (lu_from f n a d (suc k))

-- the outcome, the factors and the pivots of an n by n matrix a
unfoldable pub lu_outcome : Format → ℕ → List Float → LuOutcome
unfolding lu_from
lu_outcome f n a = lu_from f n a n zero

unfoldable pub lu_factors : Format → ℕ → List Float → List Float
unfolding lu_at
lu_factors f n a = lu_at f n a n

unfoldable pub lu_pivots : Format → ℕ → List Float → List ℕ
unfolding lu_pivot
lu_pivots f n a = tab n (lu_pivot f n a)
