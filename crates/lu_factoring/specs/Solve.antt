-- The solution of a system by the factors of LU, for one right-hand column x, and the determinant. F is the list of the factors of an n by n matrix,
-- ps that of the pivots' rows: LU exchanged row k with row ps(k), and the swaps are applied to x in the same order. Forward and back substitution are
-- the column-oriented ones of Golub and Van Loan, Matrix Computations (4th edition, Algorithms 3.1.3 and 3.1.4): once an unknown is known, its terms
-- are subtracted from the other rows. The determinant is negated where an odd number of pivots differ from their column; the product starts with the
-- sign and takes the diagonal from row 0 down. Rows count from 0; order 0 is accepted, and its determinant is 1. Assumes nothing.
use Rattle.std.specs.Prelude.{ℕ, zero, suc, ◌+◌, ◌-◌, ◌%◌, true, cond, List, ltb, eqb, get_or, pos, Float, Ok, Err}
use Rattle.std.proofs.Math.Option.{Option, none, some}
use Rattle.std.specs.Float.{fin, Format}
use Rattle.std.specs.Float.Ieee.{mul, sub, div}
use Rattle.arithmetic_floats.specs.Float.{one}
use Rattle.arithmetic_matrices.specs.Matrix.{tab, at, grid, item, column}
use Rattle.arithmetic_matrices.specs.Product.{identity_m}
use Rattle.lu_factoring.specs.Lu.{LuOutcome, exchange, lu_outcome, lu_factors, lu_pivots}

-- ---- the swaps, in their order

-- the items k and p of x change places
unfoldable pub swap_items : ℕ → ℕ → ℕ → List Float → List Float
unfolding exchange
swap_items n k p x = tab n (λ i. item x (exchange k p i))

-- after the first k swaps
unfoldable pub permuted : ℕ → List ℕ → List Float → ℕ → List Float
permuted n ps x zero = x
permuted n ps x (suc k) = swap_items n k (get_or ps k 0) (permuted n ps x k)

-- ---- one unknown

-- the term of the unknown q in row i: F(i, k) * q
abbrev pub term : Format → ℕ → List Float → ℕ → Float → ℕ → Float
term f n F k q i = mul f (at n F i k) q

-- x(i) less that
abbrev pub less_term : Format → ℕ → List Float → ℕ → Float → List Float → ℕ → Float
less_term f n F k q x i = sub f (item x i) (term f n F k q i)

-- ---- forward substitution: L has a unit diagonal

-- x(k) is the unknown of row k, and its terms are subtracted in the rows below row k
unfoldable pub forward_step : Format → ℕ → List Float → ℕ → List Float → List Float
forward_step f n F k x = tab n (λ i. cond (ltb k i) (less_term f n F k (item x k) x i) (item x i))

-- after the first k columns
unfoldable pub forward : Format → ℕ → List Float → List Float → ℕ → List Float
forward f n F x zero = x
forward f n F x (suc k) = forward_step f n F k (forward f n F x k)

-- ---- back substitution

-- the unknown of row k: x(k) / F(k, k)
abbrev pub unknown : Format → ℕ → List Float → ℕ → List Float → Float
unknown f n F k x = div f (item x k) (at n F k k)

-- it replaces x(k), and its terms are subtracted in the rows above row k
unfoldable pub back_step : Format → ℕ → List Float → ℕ → List Float → List Float
back_step f n F k x =
    let q = unknown f n F k x in
    tab n (λ i. cond (eqb i k) q (cond (ltb i k) (less_term f n F k q x i) (item x i)))

-- after the last d columns
unfoldable pub back : Format → ℕ → List Float → List Float → ℕ → List Float
back f n F x zero = x
back f n F x (suc d) = back_step f n F (n - suc d) (back f n F x d)

-- ---- the solution

-- x for the right-hand column that is given: swaps, forward and back substitution
unfoldable pub solved : Format → ℕ → List Float → List ℕ → List Float → List Float
unfolding permuted forward back
solved f n F ps x = back f n F (forward f n F (permuted n ps x n) n) n

-- ---- the determinant: the product of the diagonal, negated where the number of swaps is odd

-- how many of the first k pivots differ from their column
unfoldable pub swaps : List ℕ → ℕ → ℕ
swaps ps zero = zero
swaps ps (suc k) = swaps ps k + cond (eqb (get_or ps k 0) k) 0 1

-- the sign and the product of the first k entries of the diagonal, in their order
unfoldable pub signed_product : Format → ℕ → List Float → Float → ℕ → Float
signed_product f n F s zero = s
signed_product f n F s (suc k) = mul f (signed_product f n F s k) (at n F k k)

-- 1 where the number of swaps is even, and -1 where it is odd
abbrev pub sign_of : ℕ → Float
sign_of c = cond (eqb (c % 2) 0) one (fin true 1 (pos 0))

-- the determinant
unfoldable pub determinant_of : Format → ℕ → List Float → List ℕ → Float
unfolding swaps signed_product
determinant_of f n F ps = signed_product f n F (sign_of (swaps ps n)) n

-- ---- a right-hand matrix of n rows and m columns

-- the matrix whose columns are the solutions for the columns of b
unfoldable pub solved_matrix : Format → ℕ → ℕ → List Float → List ℕ → List Float → List Float
unfolding solved column
solved_matrix f n m F ps b = grid n m (λ r c. item (solved f n F ps (column n m b c)) r)

-- the solution for column j of b, of the system whose matrix is a
unfoldable pub solution : Format → ℕ → List Float → List Float → ℕ → List Float
unfolding solved column
solution f n a b j = solved f n (lu_factors f n a) (lu_pivots f n a) (column n n b j)

-- all of them: the quotient of b by a
unfoldable pub quotient : Format → ℕ → List Float → List Float → List Float
unfolding solved_matrix
quotient f n a b = solved_matrix f n n (lu_factors f n a) (lu_pivots f n a) b

-- the quotient q, or b in its place where LU refuses
abbrev pub stand_in : {A : Type 0} → LuOutcome → A → A → A
stand_in (Ok _) q b = q
stand_in (Err bad) q b = b

-- where LU accepts the matrix
abbrev pub where_factored : {A : Type 0} → LuOutcome → A → Option A
where_factored (Ok _) x = some x
where_factored (Err bad) x = none

-- a x = b for a matrix b: nothing where LU refuses a
unfoldable pub division : Format → ℕ → List Float → List Float → Option (List Float)
division f n a b = where_factored (lu_outcome f n a) (quotient f n a b)

-- the inverse is the quotient of the identity
unfoldable pub inverse : Format → ℕ → List Float → Option (List Float)
inverse f n a = division f n a (identity_m n)
