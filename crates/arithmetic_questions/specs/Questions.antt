-- The questions, 1 to 12 of document 01 and 17 of document 02, each defined once, and which of 1 to 11 each function asks of a call. Definitions only.
use Rattle.std.specs.Prelude.{ℕ, suc, ◌*◌, ◌/◌, ◌%◌, Bool, true, false, cond, ◌&&◌, List, [], ◌∷◌, ◌++◌, map, leb, ltb, eqb, length, Float}
use Rattle.std.proofs.Math.Option.{Option, none, some}
use Rattle.std.specs.Float.Ieee.{lt, le}
use Rattle.std.specs.Float.Ieee.Scale.{finite}
use Rattle.arithmetic_floats.specs.Float.{+zero}
use Rattle.arithmetic_matrices.specs.Matrix.{item}
use Rattle.arithmetic_questions.specs.Result.{Result, Found, refused, ◌>>=◌, passes, ask, only_where, first_no}

-- ---- what a call is given

-- the matrix, what stands beside it, the exponent, the pivots, the lengths of the lent outputs and of the workspace
pub record Call : Type 0 where
  pub rows : ℕ
  pub columns : ℕ
  pub matrix : List Float
  pub companion_rows : ℕ
  pub companion_columns : ℕ
  pub companion : List Float
  pub exponent : Float
  pub pivots : List ℕ
  pub outputs : List ℕ
  pub room : ℕ

-- a matrix is given by its rows, its columns and its entries row by row
abbrev pub Given : Type 0
Given = ℕ × ℕ × List Float

abbrev pub call_of : Given → Given → Float → List ℕ → List ℕ → ℕ → Call
call_of a b p ps outs w = record {
  rows = a.0;
  columns = a.1;
  matrix = a.2;
  companion_rows = b.0;
  companion_columns = b.1;
  companion = b.2;
  exponent = p;
  pivots = ps;
  outputs = outs;
  room = w;
}

-- what stands for a part that a function does not take; no question of that function reads it
abbrev pub no_matrix : Given
no_matrix = (0, 0, [])

abbrev pub no_exponent : Float
no_exponent = +zero

abbrev pub no_pivots : List ℕ
no_pivots = []

abbrev pub no_room : ℕ
no_room = 0

-- a matrix with an exponent, a matrix alone, and two matrices
abbrev pub powered : ℕ → ℕ → List Float → Float → List ℕ → ℕ → Call
powered r c a p outs w = call_of (r, c, a) no_matrix p no_pivots outs w

abbrev pub unary : ℕ → ℕ → List Float → List ℕ → ℕ → Call
unary r c a outs w = call_of (r, c, a) no_matrix no_exponent no_pivots outs w

abbrev pub binary : ℕ → ℕ → List Float → ℕ → ℕ → List Float → List ℕ → ℕ → Call
binary r c a r' c' b outs w = call_of (r, c, a) (r', c', b) no_exponent no_pivots outs w

-- ---- what a function asks: one case for each question

-- 1
pub data Emptiness : Type 0 where
  at_least_one_row any_rows : Emptiness

-- 2
pub data Shape : Type 0 where
  square_only any_shape : Shape

-- 3, 5 and 7: what stands beside the matrix
pub data Companion : Type 0 where
  without_companion direction right_hand_side second_matrix second_square_matrix : Companion

-- 4: the numbers that have a limit, and the limit
pub data Limits : Type 0 where
  order8 order64 order_and_right_columns64 sizes_and_products64 : Limits

-- 5 and 9: pivots that are an output are lent, and those that are an input are given
pub data Pivots : Type 0 where
  without_pivots lent_pivots given_pivots : Pivots

-- 5
pub data Workspace : Type 0 where
  with_workspace without_workspace : Workspace

-- 6
pub data Entries : Type 0 where
  finite_entries any_entries : Entries

-- 8
pub data Exponent : Type 0 where
  with_exponent without_exponent : Exponent

-- 10: where a matrix of order 1, a number, has to lie
pub data Domain : Type 0 where
  anywhere positive nonnegative : Domain

-- 11
pub data Orders : Type 0 where
  orders_from_two every_order : Orders

-- which cases a function has
pub record Profile : Type 0 where
  pub emptiness : Emptiness
  pub shape : Shape
  pub beside : Companion
  pub limits : Limits
  pub pivoted : Pivots
  pub workspace : Workspace
  pub entries : Entries
  pub power : Exponent
  pub domain : Domain
  pub orders : Orders

-- ---- the questions, each by its cases

-- 1: is there a row?
abbrev pub rows_question : Emptiness → Call → Found
rows_question at_least_one_row c = ask (ltb 0 c.rows) 1 0 0
rows_question any_rows c = passes

-- 2: are there as many columns as rows?
abbrev pub square_question : Shape → Call → Found
square_question square_only c = ask (eqb c.rows c.columns) 2 c.rows c.columns
square_question any_shape c = passes

-- 3: is a direction n by n, has a right-hand side n rows, is the second matrix of kron_sum square?
abbrev pub companion_fits : Companion → Call → Bool
companion_fits without_companion c = true
companion_fits direction c = eqb c.companion_rows c.rows && eqb c.companion_columns c.rows
companion_fits right_hand_side c = eqb c.companion_rows c.rows
companion_fits second_matrix c = true
companion_fits second_square_matrix c = eqb c.companion_rows c.companion_columns

abbrev pub companion_question : Companion → Call → Found
companion_question k c = ask (companion_fits k c) 3 c.companion_rows c.companion_columns

-- 4: is each number, in this order, at most the limit?
abbrev pub at_most : ℕ → ℕ → Found
at_most limit x = ask (leb x limit) 4 x limit

abbrev pub limit_questions : Limits → Call → List Found
limit_questions order8 c = at_most 8 c.rows ∷ []
limit_questions order64 c = at_most 64 c.rows ∷ []
limit_questions order_and_right_columns64 c = at_most 64 c.rows ∷ at_most 64 c.companion_columns ∷ []
limit_questions sizes_and_products64 c = map (at_most 64)
    (c.rows ∷ c.columns ∷ c.companion_rows ∷ c.companion_columns ∷ c.rows * c.companion_rows ∷ c.columns * c.companion_columns ∷ [])

-- 5: have matrix, companion, pivots and outputs the lengths that the sizes say?
abbrev pub exactly : ℕ → ℕ → Found
exactly wanted x = ask (eqb x wanted) 5 x wanted

abbrev pub has_companion : Companion → Bool
has_companion without_companion = false
has_companion direction = true
has_companion right_hand_side = true
has_companion second_matrix = true
has_companion second_square_matrix = true

abbrev pub has_pivots : Pivots → Bool
has_pivots without_pivots = false
has_pivots lent_pivots = true
has_pivots given_pivots = true

-- the length of an output: that of the matrix, of the right-hand side, of the product
abbrev pub output_length : Companion → Call → ℕ
output_length without_companion c = c.rows * c.columns
output_length direction c = c.rows * c.columns
output_length right_hand_side c = c.rows * c.companion_columns
output_length second_matrix c = (c.rows * c.companion_rows) * (c.columns * c.companion_columns)
output_length second_square_matrix c = (c.rows * c.companion_rows) * (c.columns * c.companion_columns)

abbrev pub length_questions : Profile → Call → List Found
length_questions p c =
    exactly (c.rows * c.columns) (length c.matrix)
    ∷ only_where (has_companion p.beside) (exactly (c.companion_rows * c.companion_columns) (length c.companion))
    ∷ only_where (has_pivots p.pivoted) (exactly c.rows (length c.pivots))
    ∷ map (exactly (output_length p.beside c)) c.outputs

-- 5 again: has the workspace at least 8,192 numbers?
abbrev pub at_least8192 : ℕ → Found
at_least8192 x = ask (leb 8192 x) 5 x 8192

abbrev pub workspace_question : Workspace → Call → Found
workspace_question with_workspace c = at_least8192 c.room
workspace_question without_workspace c = passes

-- 6 and 7: is every entry finite? Otherwise the first that is not, row by row, by its row and column
unfoldable pub first_nonfinite : ℕ → List Float → Option ℕ
first_nonfinite q [] = none
first_nonfinite q (x ∷ l) = cond (finite x) (first_nonfinite (suc q) l) (some q)

unfoldable pub placed : ℕ → ℕ → Option ℕ → Found
placed number columns none = passes
placed number columns (some q) = refused number (q / columns) (q % columns)

unfoldable pub all_finite : ℕ → ℕ → List Float → Found
unfolding first_nonfinite placed
all_finite number columns a = placed number columns (first_nonfinite 0 a)

-- 6: of the matrix
abbrev pub entries_question : Entries → Call → Found
entries_question finite_entries c = all_finite 6 c.columns c.matrix
entries_question any_entries c = passes

-- 7: of a direction
abbrev pub direction_question : Companion → Call → Found
direction_question without_companion c = passes
direction_question direction c = all_finite 7 c.companion_columns c.companion
direction_question right_hand_side c = passes
direction_question second_matrix c = passes
direction_question second_square_matrix c = passes

-- 8: is the exponent finite?
abbrev pub exponent_question : Exponent → Call → Found
exponent_question with_exponent c = ask (finite c.exponent) 8 0 0
exponent_question without_exponent c = passes

-- 9: does pivot k name a row from k to n - 1?
unfoldable pub pivots_from : ℕ → ℕ → List ℕ → Found
pivots_from n k [] = passes
pivots_from n k (p ∷ ps) = cond (leb k p && ltb p n) (pivots_from n (suc k) ps) (refused 9 k p)

abbrev pub pivots_question : Pivots → Call → Found
pivots_question without_pivots c = passes
pivots_question lent_pivots c = passes
pivots_question given_pivots c = pivots_from c.rows 0 c.pivots

-- 10: of order 1, is the number above 0, or at least 0?
abbrev pub domain_question : Domain → Call → Found
domain_question anywhere c = passes
domain_question positive c = only_where (eqb c.rows 1) (ask (lt +zero (item c.matrix 0)) 10 0 0)
domain_question nonnegative c = only_where (eqb c.rows 1) (ask (le +zero (item c.matrix 0)) 10 0 0)

-- 11: is the order at least 2?
abbrev pub order_question : Orders → Call → Found
order_question orders_from_two c = ask (leb 2 c.rows) 11 0 0
order_question every_order c = passes

-- ---- asked on the way, by the functions that halve

-- 12: is the norm that sets the halvings finite?
abbrev pub norm_question : Float → Found
norm_question x = ask (finite x) 12 0 0

-- 17: are there at most 64 halvings?
abbrev pub halvings_question : ℕ → Found
halvings_question s = ask (leb s 64) 17 s 0

-- ---- those of the call in order: first shapes and lengths, 1 to 5, then the numbers, 6 to 11

-- 1 to 5 of a function, in order
unfoldable pub shape_questions : Profile → Call → List Found
shape_questions p c =
    rows_question p.emptiness c
    ∷ square_question p.shape c
    ∷ companion_question p.beside c
    ∷ limit_questions p.limits c
    ++ length_questions p c
    ++ workspace_question p.workspace c
    ∷ []

-- 6 to 11 of a function, in order
unfoldable pub number_questions : Profile → Call → List Found
unfolding all_finite pivots_from
number_questions p c =
    entries_question p.entries c
    ∷ direction_question p.beside c
    ∷ exponent_question p.power c
    ∷ pivots_question p.pivoted c
    ∷ domain_question p.domain c
    ∷ order_question p.orders c
    ∷ []

-- 1 to 11 in order: the first refusal, or it passes
unfoldable pub asked : Profile → Call → Found
unfolding first_no shape_questions number_questions
asked p c = first_no (shape_questions p c ++ number_questions p c)

-- the refusal of a call by its questions, or where they pass what the function gives, x
unfoldable pub answer : {A : Type 0} → Profile → Call → Result A → Result A
unfolding asked ◌>>=◌
answer p c x = asked p c >>= λ _. x

-- ---- the functions: which of them asks which question
--
-- x: asked, -: not asked. Column 3 says what the companion has to be, column 4 what has a limit, column 10 what the entry a of a matrix of order 1 has to be; n is the order, m the
-- number of columns of the right-hand side, and the sizes of kron and kron_sum are the rows and columns of each matrix, the product of the rows and the product of the columns.
-- Column 5 says whose lengths are asked, in this order: A the matrix, B the companion, P the pivots, X an output, w the workspace. frechet_sqrtm_sylvester asks what frechet_sqrtm asks.
--
--                    1  2  3       4               5          6  7  8  9  10     11
--   expm             x  x  -       n ≤ 8           A X w      x  -  -  -  -      x
--   logm             x  x  -       n ≤ 8           A X w      x  -  -  -  a > 0  x
--   sqrtm            x  x  -       n ≤ 8           A X w      x  -  -  -  a ≥ 0  -
--   powm             x  x  -       n ≤ 8           A X w      x  -  x  -  -      x
--   cosm             x  x  -       n ≤ 8           A X w      x  -  -  -  -      x
--   sinm             x  x  -       n ≤ 8           A X w      x  -  -  -  -      x
--   frechet_expm     x  x  n by n  n ≤ 8           A B X X w  x  x  -  -  -      -
--   frechet_logm     x  x  n by n  n ≤ 8           A B X X w  x  x  -  -  a > 0  x
--   frechet_sqrtm    x  x  n by n  n ≤ 8           A B X X w  x  x  -  -  a ≥ 0  -
--   cond_expm        x  x  -       n ≤ 8           A w        x  -  -  -  -      -
--   Lu::compute      -  x  -       n ≤ 64          A P X w    -  -  -  -  -      -
--   Lu::solve        -  x  n rows  n ≤ 64, m ≤ 64  A B P X    -  -  -  x  -      -
--   Lu::determinant  -  x  -       n ≤ 64          A P        -  -  -  x  -      -
--   kron             -  -  -       sizes ≤ 64      A B X      -  -  -  -  -      -
--   kron_sum         -  x  square  sizes ≤ 64      A B X      -  -  -  -  -      -

-- the eleven functions with a code on a sheet: orders 1 to 8, finite entries, a workspace
abbrev pub coded : Companion → Exponent → Domain → Orders → Profile
coded beside power domain orders = record {
  emptiness = at_least_one_row;
  shape = square_only;
  beside = beside;
  limits = order8;
  pivoted = without_pivots;
  workspace = with_workspace;
  entries = finite_entries;
  power = power;
  domain = domain;
  orders = orders;
}

-- the five others: order 0 too, any entries
abbrev pub uncoded : Shape → Companion → Limits → Pivots → Workspace → Profile
uncoded shape beside limits pivoted workspace = record {
  emptiness = any_rows;
  shape = shape;
  beside = beside;
  limits = limits;
  pivoted = pivoted;
  workspace = workspace;
  entries = any_entries;
  power = without_exponent;
  domain = anywhere;
  orders = every_order;
}

abbrev pub of_expm : Profile
of_expm = coded without_companion without_exponent anywhere orders_from_two

abbrev pub of_logm : Profile
of_logm = coded without_companion without_exponent positive orders_from_two

abbrev pub of_sqrtm : Profile
of_sqrtm = coded without_companion without_exponent nonnegative every_order

abbrev pub of_powm : Profile
of_powm = coded without_companion with_exponent anywhere orders_from_two

abbrev pub of_cosm : Profile
of_cosm = coded without_companion without_exponent anywhere orders_from_two

abbrev pub of_sinm : Profile
of_sinm = coded without_companion without_exponent anywhere orders_from_two

abbrev pub of_frechet_expm : Profile
of_frechet_expm = coded direction without_exponent anywhere every_order

abbrev pub of_frechet_logm : Profile
of_frechet_logm = coded direction without_exponent positive orders_from_two

-- frechet_sqrtm and frechet_sqrtm_sylvester
abbrev pub of_frechet_sqrtm : Profile
of_frechet_sqrtm = coded direction without_exponent nonnegative every_order

abbrev pub of_cond_expm : Profile
of_cond_expm = coded without_companion without_exponent anywhere every_order

abbrev pub of_compute : Profile
of_compute = uncoded square_only without_companion order64 lent_pivots with_workspace

abbrev pub of_solve : Profile
of_solve = uncoded square_only right_hand_side order_and_right_columns64 given_pivots without_workspace

abbrev pub of_determinant : Profile
of_determinant = uncoded square_only without_companion order64 given_pivots without_workspace

abbrev pub of_kron : Profile
of_kron = uncoded any_shape second_matrix sizes_and_products64 without_pivots without_workspace

abbrev pub of_kron_sum : Profile
of_kron_sum = uncoded square_only second_square_matrix sizes_and_products64 without_pivots without_workspace
