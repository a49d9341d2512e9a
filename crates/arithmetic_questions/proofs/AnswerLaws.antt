-- What a call answers once its questions are asked: laws for every profile. Assumes nothing.
use Rattle.std.specs.Prelude.{Ok, Err}
use Prim.Native.Nat.{ℕ, suc, ◌*◌, ◌≤◌}
use mathlib.Core.Path.{◌≡◌, ap, sym, subst, ◌∙◌}
use mathlib.Core.Bool.{Bool, true, false, cond, ◌&&◌}
use mathlib.Core.List.{List, [], ◌∷◌, ◌++◌, map}
use mathlib.Core.Option.{Option, none, some}
use lib.Dec.{lit≤, ltb, leb, eqb}
use lib.ListN.{length}
use borrow.Author.Tests.{le-leb}
use lib.Ieee.{Float, lt, le}
use lib.Ieee.Scale.{finite}
use Rattle.arithmetic_floats.specs.Float.{+zero}
use Rattle.arithmetic_matrices.specs.Matrix.{item}
use Rattle.arithmetic_matrices.specs.Workspace.{cleared}
use Rattle.arithmetic_questions.specs.Result.{Result, Found, refused, done, ◌>>=◌, ask, only_where, first_no, outcome, exit, workspace}
use Rattle.arithmetic_questions.specs.Questions.{Call, Emptiness, at_least_one_row, any_rows, Shape, square_only, any_shape, Companion, without_companion, direction, right_hand_side, second_matrix, second_square_matrix, Limits, order8, order64, order_and_right_columns64, sizes_and_products64, Pivots, without_pivots, lent_pivots, given_pivots, Workspace, with_workspace, without_workspace, Entries, finite_entries, any_entries, Exponent, with_exponent, without_exponent, Domain, anywhere, positive, nonnegative, Orders, orders_from_two, every_order, Profile, rows_question, square_question, companion_fits, companion_question, at_most, limit_questions, exactly, has_companion, has_pivots, output_length, length_questions, workspace_question, first_nonfinite, placed, all_finite, entries_question, direction_question, exponent_question, pivots_from, pivots_question, domain_question, order_question, shape_questions, number_questions, asked, answer}
use Rattle.arithmetic_questions.specs.Answers.{Question, numbered, found}
use Rattle.arithmetic_questions.specs.declared.answer.Refusal.{Refusal}
use Rattle.arithmetic_questions.proofs.QuestionLaws.{as_refused, Each, each_append, questions}

-- every refusal of 1 to 11 has a number up to 11
abbrev pub Early : Found → Type 0
Early (refused k x y) = k ≤ 11
Early (done s a) = Unit {0}

early_ask : (b : Bool) (k x y : ℕ) → k ≤ 11 → Early (ask b k x y)
early_ask true k x y h = tt
early_ask false k x y h = h

early_where : (b : Bool) (p : Found) → Early p → Early (only_where b p)
early_where true p h = h
early_where false p h = tt

early_map : (f : ℕ → Found) → ((x : ℕ) → Early (f x)) → (l : List ℕ) → Each Early (map f l)
early_map f h [] = tt
early_map f h (x ∷ l) = (h x, early_map f h l)

early_first : (l : List Found) → Each Early l → Early (first_no l)
unfolding first_no ◌>>=◌
early_first [] h = tt
early_first (refused k x y ∷ l) h = h.0
early_first (done s a ∷ l) h = early_first l h.1

early_most : (limit x : ℕ) → Early (at_most limit x)
early_most limit x = early_ask (leb x limit) 4 x limit (lit≤ tt)

early_exactly : (wanted x : ℕ) → Early (exactly wanted x)
early_exactly wanted x = early_ask (eqb x wanted) 5 x wanted (lit≤ tt)

early_placed : (number columns : ℕ) (o : Option ℕ) → number ≤ 11 → Early (placed number columns o)
unfolding placed
early_placed number columns none h = tt
early_placed number columns (some q) h = h

early_finite : (number columns : ℕ) (a : List Float) → number ≤ 11 → Early (all_finite number columns a)
unfolding all_finite
early_finite number columns a h = early_placed number columns (first_nonfinite 0 a) h

early_cond : (b : Bool) (q : Found) (k x y : ℕ) → Early q → k ≤ 11 → Early (cond b q (refused k x y))
early_cond true q k x y h l = h
early_cond false q k x y h l = l

early_pivot : (n k : ℕ) (l : List ℕ) → Early (pivots_from n k l)
unfolding pivots_from
early_pivot n k [] = tt
early_pivot n k (p ∷ l) = early_cond (leb k p && ltb p n) (pivots_from n (suc k) l) 9 k p (early_pivot n (suc k) l) (lit≤ tt)

-- ---- each question by its cases

module _ (c : Call) where
  early_rows : (e : Emptiness) → Early (rows_question e c)
  early_rows at_least_one_row = early_ask (ltb 0 c.rows) 1 0 0 (lit≤ tt)
  early_rows any_rows = tt

  early_square : (s : Shape) → Early (square_question s c)
  early_square square_only = early_ask (eqb c.rows c.columns) 2 c.rows c.columns (lit≤ tt)
  early_square any_shape = tt

  early_companion : (k : Companion) → Early (companion_question k c)
  early_companion k = early_ask (companion_fits k c) 3 c.companion_rows c.companion_columns (lit≤ tt)

  early_limits : (l : Limits) → Each Early (limit_questions l c)
  early_limits order8 = (early_most 8 c.rows, tt)
  early_limits order64 = (early_most 64 c.rows, tt)
  early_limits order_and_right_columns64 = (early_most 64 c.rows, (early_most 64 c.companion_columns, tt))
  early_limits sizes_and_products64 =
      early_map (at_most 64) (early_most 64)
      (c.rows ∷ c.columns ∷ c.companion_rows ∷ c.companion_columns ∷ c.rows * c.companion_rows ∷ c.columns * c.companion_columns ∷ [])

  early_room : (w : Workspace) → Early (workspace_question w c)
  early_room with_workspace = early_ask (leb 8192 c.room) 5 c.room 8192 (lit≤ tt)
  early_room without_workspace = tt

  early_entries : (e : Entries) → Early (entries_question e c)
  early_entries finite_entries = early_finite 6 c.columns c.matrix (lit≤ tt)
  early_entries any_entries = tt

  early_direction : (k : Companion) → Early (direction_question k c)
  early_direction without_companion = tt
  early_direction direction = early_finite 7 c.companion_columns c.companion (lit≤ tt)
  early_direction right_hand_side = tt
  early_direction second_matrix = tt
  early_direction second_square_matrix = tt

  early_exponent : (e : Exponent) → Early (exponent_question e c)
  early_exponent with_exponent = early_ask (finite c.exponent) 8 0 0 (lit≤ tt)
  early_exponent without_exponent = tt

  early_pivots : (p : Pivots) → Early (pivots_question p c)
  early_pivots without_pivots = tt
  early_pivots lent_pivots = tt
  early_pivots given_pivots = early_pivot c.rows 0 c.pivots

  early_domain : (d : Domain) → Early (domain_question d c)
  early_domain anywhere = tt
  early_domain positive = early_where (eqb c.rows 1) _ (early_ask (lt +zero (item c.matrix 0)) 10 0 0 (lit≤ tt))
  early_domain nonnegative = early_where (eqb c.rows 1) _ (early_ask (le +zero (item c.matrix 0)) 10 0 0 (lit≤ tt))

  early_orders : (o : Orders) → Early (order_question o c)
  early_orders orders_from_two = early_ask (leb 2 c.rows) 11 0 0 (lit≤ tt)
  early_orders every_order = tt

module _ (p : Profile) (c : Call) where
  early_lengths : Each Early (length_questions p c)
  early_lengths = (
    early_exactly (c.rows * c.columns) (length c.matrix),
    (
      early_where (has_companion p.beside) _ (early_exactly (c.companion_rows * c.companion_columns) (length c.companion)),
      (
        early_where (has_pivots p.pivoted) _ (early_exactly c.rows (length c.pivots)),
        early_map (exactly (output_length p.beside c)) (early_exactly (output_length p.beside c)) c.outputs,
      ),
    ),
  )

  -- 1 to 4
  abbrev size_questions : List Found
  size_questions = rows_question p.emptiness c ∷ square_question p.shape c ∷ companion_question p.beside c ∷ limit_questions p.limits c

  early_sizes : Each Early size_questions
  early_sizes = (early_rows c p.emptiness, (early_square c p.shape, (early_companion c p.beside, early_limits c p.limits)))

  early_shape : Each Early (shape_questions p c)
  unfolding shape_questions
  early_shape =
      each_append Early (size_questions ++ length_questions p c) (workspace_question p.workspace c ∷ [])
      (each_append Early size_questions (length_questions p c) early_sizes early_lengths)
      (early_room c p.workspace, tt)

  early_numbers : Each Early (number_questions p c)
  unfolding number_questions
  early_numbers = (
    early_entries c p.entries,
    (
      early_direction c p.beside,
      (early_exponent c p.power, (early_pivots c p.pivoted, (early_domain c p.domain, (early_orders c p.orders, tt)))),
    ),
  )

  pub early : Early (asked p c)
  unfolding asked
  early = early_first (questions p c) (each_append Early (shape_questions p c) (number_questions p c) early_shape early_numbers)

early_workspace : (A : Type 0) (k i j : ℕ) (w : List Float) → k ≤ 11 → workspace {A = A} (refused k i j) w ≡ w
unfolding workspace
early_workspace A k i j w h = ap (λ (b : Bool). cond b w (cleared w)) (le-leb k 11 h)

module _ {A : Type 0} (p : Profile) (c : Call) (r : Result A) (q : Question) (h : found q ≡ asked p c) where
  -- a call whose questions pass answers what its function does
  pub answer_passed : q ≡ Ok tt → answer p c r ≡ r
  unfolding answer ◌>>=◌
  answer_passed e = rw (← h, e)

  module _ (x : Refusal) (e : q ≡ Err x) where
    -- a call that a question refuses is refused by it, whatever its function would do
    pub answer_no : (k : ℕ) × (i : ℕ) × (j : ℕ) × (numbered x ≡ refused k i j) × (answer p c r ≡ refused k i j) × (k ≤ 11)
    unfolding answer ◌>>=◌
    answer_no =
        let (k, i, j, n) = as_refused x in
        (k, i, j, n, rw (← h, e, n), subst Early (sym h ∙ ap found e ∙ n) (early p c))

    -- it reports that refusal
    pub outcome_no : outcome (answer p c r) ≡ numbered x
    unfolding outcome
    outcome_no = let (k, i, j, n, a, l) = answer_no in ap outcome a ∙ sym n

    -- leaves every output as it was lent
    pub exit_no : {B : Type 0} (read : A → B) (was : B) → exit read (answer p c r) was ≡ was
    unfolding exit
    exit_no read was = let (k, i, j, n, a, l) = answer_no in ap (λ (z : Result A). exit read z was) a

    -- and the workspace
    pub workspace_no : (w : List Float) → workspace (answer p c r) w ≡ w
    workspace_no w = let (k, i, j, n, a, l) = answer_no in ap (λ (z : Result A). workspace z w) a ∙ early_workspace A k i j w l
