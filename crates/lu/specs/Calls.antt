-- What each public call of LU gives, as a function of all that it is given. Definitions only.
use Rattle.std.specs.Prelude.{ℕ, ◌≡◌, List, [], ◌∷◌, Float, Ok, Err}
use Rattle.std.specs.Float.{Format}
use Rattle.arithmetic_questions.specs.Result.{Result, refused, done, exit, outcome as outcome_of, workspace as workspace_of}
use Rattle.arithmetic_questions.specs.Answers.{Outcome, reported}
use Rattle.arithmetic_questions.specs.Questions.{Call, call_of, no_matrix, no_exponent, no_room, answer, of_compute, of_solve, of_determinant}
use Rattle.lu_factoring.specs.Lu.{LuOutcome, lu_outcome, lu_factors, lu_pivots}
use Rattle.lu_factoring.specs.Solve.{solved_matrix, determinant_of}

-- the outputs of `compute`
pub record Factorisation : Type 0 where
  pub factors : List Float
  pub pivot_rows : List ℕ

-- question 14: every column passes the pivot test
abbrev pub factorised : LuOutcome → Factorisation → Result Factorisation
factorised (Ok _) l = done 0 l
factorised (Err bad) l = refused 14 bad.column 0

-- `compute` is given rows, columns, the matrix, the lent pivots, the lengths of the lent factors and of the workspace
abbrev pub compute_call : ℕ → ℕ → List Float → List ℕ → ℕ → ℕ → Call
compute_call r c a ps out w = call_of (r, c, a) no_matrix no_exponent ps (out ∷ []) w

unfoldable pub compute : Format → ℕ → ℕ → List Float → List ℕ → ℕ → ℕ → Result Factorisation
compute f r c a ps out w = answer of_compute (compute_call r c a ps out w)
    (factorised (lu_outcome f r a) (record { factors = lu_factors f r a; pivot_rows = lu_pivots f r a }))

-- `solve` is given rows, columns, factors, pivots, the right-hand matrix with its rows and columns, the length of the lent solution
abbrev pub solve_call : ℕ → ℕ → List Float → List ℕ → ℕ → ℕ → List Float → ℕ → Call
solve_call r c F ps r' c' b out = call_of (r, c, F) (r', c', b) no_exponent ps (out ∷ []) no_room

unfoldable pub solve : Format → ℕ → ℕ → List Float → List ℕ → ℕ → ℕ → List Float → ℕ → Result (List Float)
solve f r c F ps r' c' b out = answer of_solve (solve_call r c F ps r' c' b out) (done 0 (solved_matrix f r c' F ps b))

-- `determinant` is given rows, columns, factors, pivots
abbrev pub determinant_call : ℕ → ℕ → List Float → List ℕ → Call
determinant_call r c F ps = call_of (r, c, F) no_matrix no_exponent ps [] no_room

unfoldable pub determinant : Format → ℕ → ℕ → List Float → List ℕ → Result Float
determinant f r c F ps = answer of_determinant (determinant_call r c F ps) (done 0 (determinant_of f r F ps))

-- what `compute` leaves of its factors, pivots and workspace, where its definition gives x and its answer has the outcome o
pub record Computed (x : Result Factorisation) (o : Outcome) (fs fs' : List Float) (ps ps' : List ℕ) (w w' : List Float) : Type 0 where
  pub outcome : reported o ≡ outcome_of x
  pub factors : fs' ≡ exit (λ (l : Factorisation). l.factors) x fs
  pub pivots : ps' ≡ exit (λ (l : Factorisation). l.pivot_rows) x ps
  pub workspace : w' ≡ workspace_of x w
