-- Laws of the questions that the calls of LU ask. Assumes nothing.
use Rattle.std.specs.Prelude.{Ok}
use Prim.Native.Nat.{ℕ, zero, suc, ◌+◌, ◌*◌, ◌≤◌, ◌<◌}
use mathlib.Core.Path.{◌≡◌, refl, ◌∙◌}
use mathlib.Core.Bool.{Bool, true, false, false≢true, cond, ◌&&◌}
use mathlib.Core.List.{List, [], ◌∷◌, ◌++◌}
use native.Mathlib.Nat.{mul-le-mul}
use native.Mathlib.Numerals.{add-one}
use native.Mathlib.Omega.{arith}
use lib.Dec.{ltb, leb, eqb}
use lib.ListN.{length, get_or, drop, drop_of_length-le}
use lib.Seq.{drop-cons}
use borrow.Author.Tests.{leb-true, ltb-true, eqb-true}
use lib.Ieee.{Float}
use Rattle.arithmetic_questions.specs.Result.{Found, refused, ◌>>=◌, passes, ask, first_no}
use Rattle.arithmetic_questions.specs.Questions.{at_most, exactly, at_least8192, pivots_from, shape_questions, number_questions, asked, of_compute, of_solve, of_determinant}
use Rattle.arithmetic_questions.specs.Answers.{Question, found}
use Rattle.arithmetic_questions.proofs.QuestionLaws.{told, Yes, Each, all_yes, ask_yes, at_most_yes, exactly_yes}
use Rattle.lu.specs.Calls.{compute_call, solve_call, determinant_call}

-- ---- 9: the pivots, one at a time

module _ (n : ℕ) (ps : List ℕ) (k : ℕ) where
  -- pivot k names a row, and those after it are left
  pub pivots_more :
      k < length ps → (leb k (get_or ps k 0) && ltb (get_or ps k 0) n) ≡ true → pivots_from n k (drop k ps) ≡ pivots_from n (k + 1) (drop (k + 1) ps)
  unfolding pivots_from
  pivots_more h e = rw (add-one, drop-cons ps k 0, e)

  -- it does not
  pub pivots_stop :
      k < length ps → (leb k (get_or ps k 0) && ltb (get_or ps k 0) n) ≡ false → pivots_from n k (drop k ps) ≡ refused 9 k (get_or ps k 0)
  unfolding pivots_from
  pivots_stop h e = rw (drop-cons ps k 0, e)

  -- there is none
  pub pivots_end : length ps ≤ k → pivots_from n k (drop k ps) ≡ passes
  unfolding pivots_from
  pivots_end h = rw (drop_of_length-le ps {i = k} h)

-- where they pass, each names a row
pivot_yes : (a b : Bool) (p : Found) (k x : ℕ) → Yes (cond (a && b) p (refused 9 k x)) → (b ≡ true) × Yes p
pivot_yes true true p k x h = (refl, h)
pivot_yes true false p k x h = absurd (false≢true h)
pivot_yes false b p k x h = absurd (false≢true h)

pivots_yes : (n q : ℕ) (ps : List ℕ) → Yes (pivots_from n q ps) → (k : ℕ) → k < length ps → get_or ps k 0 < n
unfolding pivots_from
pivots_yes n q [] h k l = absurd (omega arith)
pivots_yes n q (p ∷ ps) h zero l = ltb-true p n (pivot_yes (leb q p) (ltb p n) _ q p h).0
pivots_yes n q (p ∷ ps) h (suc k) l = pivots_yes n (suc q) ps (pivot_yes (leb q p) (ltb p n) _ q p h).1 k (omega arith)

-- ---- the questions of each call, without those that it does not ask

-- 2, 4 and 5, for a matrix and its pivots
abbrev pub system : ℕ → ℕ → ℕ → ℕ → List Found
system rows columns entries pivots =
    ask (eqb rows columns) 2 rows columns ∷ at_most 64 rows ∷ exactly (rows * columns) entries ∷ exactly rows pivots ∷ []

-- 2 to 4, for a matrix and a right-hand side
abbrev pub sides : ℕ → ℕ → ℕ → ℕ → List Found
sides rows columns height width =
    ask (eqb rows columns) 2 rows columns ∷ ask (eqb height rows) 3 height width ∷ at_most 64 rows ∷ at_most 64 width ∷ []

-- 5, for a matrix, a right-hand side, pivots and a solution
abbrev pub sizes : ℕ → ℕ → ℕ → ℕ → ℕ → ℕ → ℕ → ℕ → List Found
sizes rows columns entries pivots height width right out =
    exactly (rows * columns) entries ∷ exactly (height * width) right ∷ exactly rows pivots ∷ exactly (rows * width) out ∷ []

module _ (rows columns : ℕ) (a : List Float) (ps : List ℕ) where
  pub compute_asked :
      (factors room : ℕ) → asked of_compute (compute_call rows columns a ps factors room)
      ≡ first_no (system rows columns (length a) (length ps) ++ (exactly (rows * columns) factors ∷ at_least8192 room ∷ []))
  unfolding asked first_no ◌>>=◌ shape_questions number_questions
  compute_asked factors room = refl

  pub determinant_asked :
      asked of_determinant (determinant_call rows columns a ps)
      ≡ first_no (system rows columns (length a) (length ps) ++ (pivots_from rows 0 ps ∷ []))
  unfolding asked first_no ◌>>=◌ shape_questions number_questions
  determinant_asked = refl

  pub solve_asked :
      (height width : ℕ) (b : List Float) (out : ℕ) → asked of_solve (solve_call rows columns a ps height width b out)
      ≡ first_no ((sides rows columns height width ++ sizes rows columns (length a) (length ps) height width (length b) out) ++ (pivots_from rows 0 ps ∷ []))
  unfolding asked first_no ◌>>=◌ shape_questions number_questions
  solve_asked height width b out = refl

-- ---- no product of two numbers up to 64 is too large

square_yes : (rows columns : ℕ) → Yes (ask (eqb rows columns) 2 rows columns) → rows ≡ columns
square_yes rows columns h = eqb-true rows columns (ask_yes _ 2 rows columns h)

pub square64 : (rows columns : ℕ) → Yes (ask (eqb rows columns) 2 rows columns) → Yes (at_most 64 rows) → rows * columns ≤ 4096
square64 rows columns h k =
    let e : rows ≡ columns = square_yes rows columns h in
    let l : rows ≤ 64 = at_most_yes 64 rows k in
    let m : columns ≤ 64 = omega arith in
    mul-le-mul l m

height_yes : (rows height width : ℕ) → Yes (ask (eqb height rows) 3 height width) → height ≡ rows
height_yes rows height width h = eqb-true height rows (ask_yes _ 3 height width h)

pub sides64 :
    (rows columns height width : ℕ) → Each Yes (sides rows columns height width)
    → (rows * columns ≤ 4096) × (height * width ≤ 4096) × (rows * width ≤ 4096)
sides64 rows columns height width s =
    let e : height ≡ rows = height_yes rows height width s.1.0 in
    let l : rows ≤ 64 = at_most_yes 64 rows s.1.1.0 in
    let m : width ≤ 64 = at_most_yes 64 width s.1.1.1.0 in
    let k : height ≤ 64 = omega arith in
    (square64 rows columns s.0 s.1.1.0, mul-le-mul k m, mul-le-mul l m)

-- ---- what a call is known to be once its questions passed

-- a square matrix of an order up to 64, with as many pivots
pub record System (rows columns : ℕ) (a : List Float) (ps : List ℕ) : Type 0 where
  pub square : rows ≡ columns
  pub small : rows ≤ 64
  pub matrix : length a ≡ rows * rows
  pub pivots : length ps ≡ rows

-- `compute`
pub record Computable (rows columns : ℕ) (a : List Float) (ps : List ℕ) (out w : ℕ) : Type 0 where
  pub system : System rows columns a ps
  pub factors : out ≡ rows * rows
  pub room : 8192 ≤ w

-- `determinant`
pub record Determined (rows columns : ℕ) (F : List Float) (ps : List ℕ) : Type 0 where
  pub system : System rows columns F ps
  pub named : (k : ℕ) → k < rows → get_or ps k 0 < rows

-- `solve`
pub record Solvable (rows columns : ℕ) (F : List Float) (ps : List ℕ) (height width : ℕ) (b : List Float) (out : ℕ) : Type 0 where
  pub given : Determined rows columns F ps
  pub tall : height ≡ rows
  pub narrow : width ≤ 64
  pub right : length b ≡ rows * width
  pub solution : out ≡ rows * width

module _ (rows columns : ℕ) (a : List Float) (ps : List ℕ) where
  system_yes :
      Yes (ask (eqb rows columns) 2 rows columns) → Yes (at_most 64 rows) → Yes (exactly (rows * columns) (length a)) → Yes (exactly rows (length ps))
      → System rows columns a ps
  system_yes s l m p =
      let square : rows ≡ columns = square_yes rows columns s in
      record {
        square = square;
        small = at_most_yes 64 rows l;
        matrix = rw (← square) at (exactly_yes (rows * columns) (length a) m);
        pivots = exactly_yes rows (length ps) p;
      }

  determined : System rows columns a ps → Yes (pivots_from rows 0 ps) → Determined rows columns a ps
  determined s y = record { system = s; named = λ k h. pivots_yes rows 0 ps y k (rw s.pivots h) }

  module _ (q : Question) (e : q ≡ Ok tt) where
    pub compute_passed : (out w : ℕ) → found q ≡ asked of_compute (compute_call rows columns a ps out w) → Computable rows columns a ps out w
    compute_passed out w h =
        let y = all_yes (told q (h ∙ compute_asked rows columns a ps out w)) e in
        let s : System rows columns a ps = system_yes y.0 y.1.0 y.1.1.0 y.1.1.1.0 in
        record {
          system = s;
          factors = rw (← s.square) at (exactly_yes (rows * columns) out y.1.1.1.1.0);
          room = leb-true 8192 w (ask_yes _ 5 w 8192 y.1.1.1.1.1.0);
        }

    pub determinant_passed : found q ≡ asked of_determinant (determinant_call rows columns a ps) → Determined rows columns a ps
    determinant_passed h =
        let y = all_yes (told q (h ∙ determinant_asked rows columns a ps)) e in
        determined (system_yes y.0 y.1.0 y.1.1.0 y.1.1.1.0) y.1.1.1.1.0

    pub solve_passed :
        (height width : ℕ) (b : List Float) (out : ℕ) → found q ≡ asked of_solve (solve_call rows columns a ps height width b out)
        → Solvable rows columns a ps height width b out
    solve_passed height width b out h =
        let y = all_yes (told q (h ∙ solve_asked rows columns a ps height width b out)) e in
        let z = y.1.1.1.1 in
        let tall : height ≡ rows = height_yes rows height width y.1.0 in
        record {
          given = determined (system_yes y.0 y.1.1.0 z.0 z.1.1.0) z.1.1.1.1.0;
          tall = tall;
          narrow = at_most_yes 64 width y.1.1.1.0;
          right = rw tall at (exactly_yes (height * width) (length b) z.1.0);
          solution = exactly_yes (rows * width) out z.1.1.1.0;
        }
