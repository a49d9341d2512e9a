-- Laws of the questions asked of a call. Assumes nothing.
use Rattle.std.specs.Prelude.{IsErrAnd, Ok, Err, Some, None}
use Rattle.std.specs.Result.{result_and}
use Prim.Native.Nat.{ℕ, zero, suc, ◌+◌, ◌*◌, ◌≤◌, ◌<◌}
use mathlib.Core.Path.{◌≡◌, refl, ap, sym, ◌∙◌}
use mathlib.Core.Bool.{Bool, true, false, false≢true, cond, ◌&&◌}
use mathlib.Core.List.{List, [], ◌∷◌, ◌++◌, map}
use mathlib.Core.Option.{Option, none, some}
use native.Mathlib.Nat.{zero-add, mul-le-mul}
use native.Mathlib.Omega.{arith}
use lib.Arith.{digits_div, digits_mod}
use lib.Dec.{T, ltb, eqb}
use lib.ListN.{length}
use borrow.Author.Tests.{leb-true, ltb-true, eqb-true}
use lib.Ieee.{Float}
use lib.Ieee.Scale.{finite}
use Rattle.arithmetic_matrices.specs.Matrix.{item}
use Rattle.arithmetic_matrices.proofs.MatrixLaws.{index_lt}
use Rattle.arithmetic_questions.specs.Result.{Found, refused, done, ◌>>=◌, passes, ask, first_no}
use Rattle.arithmetic_questions.specs.Questions.{Call, unary, powered, binary, Companion, without_companion, direction, Exponent, without_exponent, Domain, anywhere, Orders, every_order, Profile, at_most, exactly, output_length, at_least8192, first_nonfinite, placed, all_finite, exponent_question, domain_question, order_question, shape_questions, number_questions, asked, coded}
use Rattle.arithmetic_questions.specs.Answers.{Question, numbered, scanned, found}
use Rattle.arithmetic_questions.specs.declared.answer.Refusal.{Refusal}
use Rattle.arithmetic_questions.specs.declared.answer.Refusal.TheVariants.{EmptyMatrix, NotSquare, CompanionShape, TooLarge, WrongLength, EntryNotFinite, DirectionNotFinite, ExponentNotFinite, PivotOutOfRange, NotDefined, OrderOne, NormNotFinite, NotConverged, SingularColumn, TooManyHalvings}

-- ---- one question after another

-- each refusal has a number and two details
pub as_refused : (x : Refusal) → (k : ℕ) × (i : ℕ) × (j : ℕ) × (numbered x ≡ refused k i j)
as_refused EmptyMatrix = (1, 0, 0, refl)
as_refused (NotSquare i j) = (2, i, j, refl)
as_refused (CompanionShape i j) = (3, i, j, refl)
as_refused (TooLarge i j) = (4, i, j, refl)
as_refused (WrongLength i j) = (5, i, j, refl)
as_refused (EntryNotFinite i j) = (6, i, j, refl)
as_refused (DirectionNotFinite i j) = (7, i, j, refl)
as_refused ExponentNotFinite = (8, 0, 0, refl)
as_refused (PivotOutOfRange i j) = (9, i, j, refl)
as_refused NotDefined = (10, 0, 0, refl)
as_refused OrderOne = (11, 0, 0, refl)
as_refused NormNotFinite = (12, 0, 0, refl)
as_refused NotConverged = (13, 0, 0, refl)
as_refused (SingularColumn k) = (14, k, 0, refl)
as_refused (TooManyHalvings s) = (17, s, 0, refl)

-- nothing is asked after a refusal
pub refusal_ends : (x : Refusal) (g : Unit {0} → Found) → (numbered x >>= g) ≡ numbered x
unfolding ◌>>=◌
refusal_ends x g = let (k, i, j, e) = as_refused x in rw e

-- what `?` hands on is the refusal that it met
pub handed_on : {r q : Question} {x : Refusal} → IsErrAnd r (λ y. y ≡ x) → q ≡ Err x → r ≡ q
handed_on {r = Ok t} h e = absurd h
handed_on {r = Err y} h e = ap Err h ∙ sym e

pub found_ends : (q : Question) → (found q >>= λ _. passes) ≡ found q
unfolding ◌>>=◌
found_ends (Ok _) = refl
found_ends (Err x) = refusal_ends x _

pub first_no_append : (l m : List Found) → first_no (l ++ m) ≡ (first_no l >>= λ _. first_no m)
unfolding first_no ◌>>=◌
first_no_append [] m = refl
first_no_append (refused k x y ∷ l) m = refl
first_no_append (done s a ∷ l) m = first_no_append l m

-- q answers the questions of a list
pub record Asks (q : Question) (l : List Found) : Type 0 where
  pub asks : found q ≡ first_no l

pub told : (q : Question) {l : List Found} → found q ≡ first_no l → Asks q l
told q h = record { asks = h }

pub single : (q : Question) {p : Found} → found q ≡ p → Asks q (p ∷ [])
unfolding first_no
single q h = record { asks = rw (← h) (sym (found_ends q)) }

-- a list that refuses decides for a longer one
pub stops : {q : Question} {l : List Found} {x : Refusal} (m : List Found) → Asks q l → q ≡ Err x → Asks q (l ++ m)
stops {q} {l} {x} m h e = record { asks = rw (first_no_append l m, ← h.asks, e) (sym (refusal_ends x _)) }

-- and one that passes leaves the rest
pub goes_on : {q r : Question} {l m : List Found} → Asks q l → q ≡ Ok tt → Asks r m → Asks r (l ++ m)
unfolding ◌>>=◌
goes_on {q} {r} {l} {m} h e k = record { asks = rw (first_no_append l m, ← h.asks, e) k.asks }

-- both asked: the refusal of the first, or else what the second answers
pub asked_both : {q r s : Question} {l m : List Found} → Asks q l → Asks r m → s ≡ result_and q r → Asks s (l ++ m)
asked_both {q = Ok t} h k e = rw e (goes_on h refl k)
asked_both {q = Err x} {m = m} h k e = rw e (stops m h refl)

and_true : (a b : Bool) → (a && b) ≡ true → (a ≡ true) × (b ≡ true)
and_true true b h = (refl, h)
and_true false b h = absurd (false≢true h)

-- ---- where a list of questions passes, each of them does

abbrev pub accepts : Found → Bool
accepts (refused k x y) = false
accepts (done s a) = true

abbrev pub Yes : Found → Type 0
Yes p = accepts p ≡ true

abbrev pub Each : {A : Type 0} → (A → Type 0) → List A → Type 0
Each P [] = Unit {0}
Each P (x ∷ l) = P x × Each P l

pub each_yes : (l : List Found) → Yes (first_no l) → Each Yes l
unfolding first_no ◌>>=◌
each_yes [] h = tt
each_yes (refused k x y ∷ l) h = absurd (false≢true h)
each_yes (done s a ∷ l) h = (refl, each_yes l h)

module _ {A : Type 0} (P : A → Type 0) where
  pub each_parts : (l m : List A) → Each P (l ++ m) → Each P l × Each P m
  each_parts [] m h = (tt, h)
  each_parts (p ∷ l) m h = let (a, b) = each_parts l m h.1 in ((h.0, a), b)

  pub each_append : (l m : List A) → Each P l → Each P m → Each P (l ++ m)
  each_append [] m h k = k
  each_append (p ∷ l) m h k = (h.0, each_append l m h.1 k)

pub all_yes : {q : Question} {l : List Found} → Asks q l → q ≡ Ok tt → Each Yes l
all_yes {q} {l} h e = each_yes l (rw (← h.asks, e) refl)

pub ask_yes : (b : Bool) (k x y : ℕ) → Yes (ask b k x y) → b ≡ true
ask_yes true k x y h = refl
ask_yes false k x y h = h

pub at_most_yes : (limit x : ℕ) → Yes (at_most limit x) → x ≤ limit
at_most_yes limit x h = leb-true x limit (ask_yes _ 4 x limit h)

pub exactly_yes : (wanted x : ℕ) → Yes (exactly wanted x) → x ≡ wanted
exactly_yes wanted x h = eqb-true x wanted (ask_yes _ 5 x wanted h)

pub lengths_yes : (wanted : ℕ) (l : List ℕ) → Each Yes (map (exactly wanted) l) → Each (λ x. x ≡ wanted) l
lengths_yes wanted [] h = tt
lengths_yes wanted (x ∷ l) h = (exactly_yes wanted x h.0, lengths_yes wanted l h.1)

-- a square matrix of an order up to 8 has at most 64 entries
pub small_square : (rows columns : ℕ) → Yes (ask (eqb rows columns) 2 rows columns) → Yes (at_most 8 rows) → rows * columns ≤ 64
small_square rows columns h k =
    let e : rows ≡ columns = eqb-true rows columns (ask_yes _ 2 rows columns h) in
    let l : rows ≤ 8 = at_most_yes 8 rows k in
    mul-le-mul {n₁ = rows} {m₁ = columns} {n₂ = 8} {m₂ = 8} l (omega arith)

-- a direction of the matrix's order has as many
pub small_direction :
    (n rows columns : ℕ) → Yes (ask (eqb rows n && eqb columns n) 3 rows columns) → Yes (at_most 8 n) → (rows ≡ n) × (columns ≡ n) × (rows * columns ≤ 64)
small_direction n rows columns h k =
    let b = and_true (eqb rows n) (eqb columns n) (ask_yes _ 3 rows columns h) in
    let e : rows ≡ n = eqb-true rows n b.0 in
    let d : columns ≡ n = eqb-true columns n b.1 in
    let l : n ≤ 8 = at_most_yes 8 n k in
    (e, d, mul-le-mul {n₁ = rows} {m₁ = columns} {n₂ = 8} {m₂ = 8} (omega arith) (omega arith))

-- ---- 6 and 7: the scan

-- the first entry that is not finite, found by its index
pub first_nonfinite_at :
    (q : ℕ) (l : List Float) (k : ℕ) → k < length l → ((i : ℕ) → i < k → finite (item l i) ≡ true) → finite (item l k) ≡ false
    → first_nonfinite q l ≡ some (q + k)
unfolding first_nonfinite
first_nonfinite_at q [] k h p e = absurd (omega arith)
first_nonfinite_at q (x ∷ l) zero h p e = rw e (ap some (omega arith))
first_nonfinite_at q (x ∷ l) (suc k) h p e =
    rw (p 0 (omega arith)) (first_nonfinite_at (suc q) l k (omega arith) (λ i hi. p (suc i) (omega arith)) e ∙ ap some (omega arith))

pub first_nonfinite_none : (q : ℕ) (l : List Float) → ((i : ℕ) → i < length l → finite (item l i) ≡ true) → first_nonfinite q l ≡ none
unfolding first_nonfinite
first_nonfinite_none q [] p = refl
first_nonfinite_none q (x ∷ l) p = rw (p 0 (omega arith)) (first_nonfinite_none (suc q) l (λ i hi. p (suc i) (omega arith)))

module _ (columns : ℕ) (a : List Float) where
  scanned_at :
      (i j : ℕ) → j < columns → i * columns + j < length a → ((k : ℕ) → k < i * columns + j → finite (item a k) ≡ true)
      → finite (item a (i * columns + j)) ≡ false → (number : ℕ) → scanned number (Some (i, j)) ≡ all_finite number columns a
  unfolding all_finite placed
  scanned_at i j hj h p e number =
      rw (first_nonfinite_at 0 a (i * columns + j) h p e, zero-add, digits_div i {m = columns} {r = j} hj, digits_mod i {m = columns} {r = j} hj)

  scanned_none : ((k : ℕ) → k < length a → finite (item a k) ≡ true) → (number : ℕ) → scanned number None ≡ all_finite number columns a
  unfolding all_finite placed
  scanned_none p number = rw (first_nonfinite_none 0 a p)

-- all entries of a, of rows by columns, that stand before entry (i, j) are finite
pub record FiniteBefore (a : List Float) (rows columns i j : ℕ) : Type 0 where
  pub size : length a ≡ rows * columns
  pub row : i ≤ rows
  pub column : j ≤ columns
  pub before : (k : ℕ) → k < i * columns + j → finite (item a k) ≡ true

module _ {a : List Float} {rows columns i j : ℕ} (s : FiniteBefore a rows columns i j) where
  -- the last row is done
  pub finite_end : rows ≤ i → (number : ℕ) → scanned number None ≡ all_finite number columns a
  finite_end h number =
      let e : i ≡ rows = omega arith in
      scanned_none columns a (λ k l. s.before k (rw e (omega arith))) number

  -- entry (i, j) lies in a, and the scan ends with it where it is not finite
  pub finite_inside : i < rows → j < columns → i * columns + j < length a
  finite_inside r h = omega (arith, index_lt r h)

  pub finite_at : i < rows → j < columns → finite (item a (i * columns + j)) ≡ false → (number : ℕ) → scanned number (Some (i, j)) ≡ all_finite number columns a
  finite_at r h e = scanned_at columns a i j h (finite_inside r h) s.before e

-- no entry is found: each is finite
found_none : (b : Bool) (o : Option ℕ) (q : ℕ) → cond b o (some q) ≡ none → T b × (o ≡ none)
found_none true o q h = (tt, h)
found_none false o q h = let z : ◌≡◌ {A = ℕ} 0 1 = cc in absurd (omega arith)

pub none_finite : (q : ℕ) (l : List Float) → first_nonfinite q l ≡ none → (i : ℕ) → i < length l → T (finite (item l i))
unfolding first_nonfinite
none_finite q [] h i k = absurd (omega arith)
none_finite q (x ∷ l) h zero k = (found_none (finite x) _ q h).0
none_finite q (x ∷ l) h (suc i) k = none_finite (suc q) l (found_none (finite x) _ q h).1 i (omega arith)

placed_yes : (number columns : ℕ) (o : Option ℕ) → Yes (placed number columns o) → o ≡ none
unfolding placed
placed_yes number columns none h = refl
placed_yes number columns (some q) h = absurd (false≢true h)

pub finite_yes : (number columns : ℕ) (a : List Float) → Yes (all_finite number columns a) → (i : ℕ) → i < length a → T (finite (item a i))
unfolding all_finite
finite_yes number columns a h = none_finite 0 a (placed_yes number columns (first_nonfinite 0 a) h)

-- ---- the shape questions of the functions with a code

module _ (domain : Domain) (orders : Orders) (rows columns : ℕ) (a : List Float) where
  -- of one matrix and an output
  pub shape_alone :
      (power : Exponent) (p : Float) (out room : ℕ)
      → first_no (shape_questions (coded without_companion power domain orders) (powered rows columns a p (out ∷ []) room))
      ≡ first_no ((ask (ltb 0 rows) 1 0 0 ∷ ask (eqb rows columns) 2 rows columns ∷ at_most 8 rows ∷ [])
      ++ (exactly (rows * columns) (length a) ∷ exactly (rows * columns) out ∷ at_least8192 room ∷ []))
  unfolding first_no ◌>>=◌ shape_questions
  shape_alone power p out room = refl

  -- of a matrix, a direction and two outputs
  pub shape_directed :
      (rows' columns' : ℕ) (b : List Float) (first second room : ℕ)
      → first_no (shape_questions (coded direction without_exponent domain orders) (binary rows columns a rows' columns' b (first ∷ second ∷ []) room))
      ≡ first_no ((ask (ltb 0 rows) 1 0 0 ∷ ask (eqb rows columns) 2 rows columns ∷ ask (eqb rows' rows && eqb columns' rows) 3 rows' columns' ∷ at_most 8 rows ∷ [])
      ++ ((exactly (rows * columns) (length a) ∷ exactly (rows' * columns') (length b) ∷ [])
      ++ (exactly (rows * columns) first ∷ exactly (rows * columns) second ∷ at_least8192 room ∷ [])))
  unfolding first_no ◌>>=◌ shape_questions
  shape_directed rows' columns' b first second room = refl

-- ---- all the questions

abbrev pub questions : Profile → Call → List Found
questions p c = shape_questions p c ++ number_questions p c

pub told_asked : (p : Profile) (c : Call) (q : Question) → found q ≡ asked p c → Asks q (questions p c)
unfolding asked
told_asked p c q h = record { asks = h }

-- those of 1 to 5 and then the others, each part asked by its own function
module _ (p : Profile) (c : Call) (q : Question) (h : found q ≡ first_no (shape_questions p c)) where
  pub shape_no : {x : Refusal} → q ≡ Err x → found q ≡ asked p c
  unfolding asked
  shape_no e = (stops {l = shape_questions p c} (number_questions p c) (record { asks = h }) e).asks

  pub shape_passed : q ≡ Ok tt → (r : Question) → found r ≡ first_no (number_questions p c) → found r ≡ asked p c
  unfolding asked
  shape_passed e r k = (goes_on {r = r} {l = shape_questions p c} {m = number_questions p c} (record { asks = h }) e (record { asks = k })).asks

-- ---- all the questions of the functions with a code

-- what every one of them asks: 1 to 7
abbrev pub base : Companion → Profile
base beside = coded beside without_exponent anywhere every_order

-- and what some ask after that
abbrev pub rest : Exponent → Domain → Orders → Call → List Found
rest power domain orders c = exponent_question power c ∷ domain_question domain c ∷ order_question orders c ∷ []

pub numbers_alone : (c : Call) → first_no (number_questions (base without_companion) c) ≡ first_no (all_finite 6 c.columns c.matrix ∷ [])
unfolding first_no ◌>>=◌ number_questions
numbers_alone c = refl

pub numbers_directed :
    (c : Call) → first_no (number_questions (base direction) c) ≡ first_no (all_finite 6 c.columns c.matrix ∷ all_finite 7 c.companion_columns c.companion ∷ [])
unfolding first_no ◌>>=◌ number_questions
numbers_directed c = refl

-- a length that was asked for passes a second time
asked_twice : (a b d e : Found) (l : List Found) → first_no (a ∷ b ∷ passes ∷ d ∷ e ∷ passes ∷ passes ∷ e ∷ l) ≡ first_no (a ∷ b ∷ passes ∷ d ∷ e ∷ passes ∷ passes ∷ l)
unfolding first_no ◌>>=◌
asked_twice (refused k x y) b d e l = refl
asked_twice (done s t) (refused k x y) d e l = refl
asked_twice (done s t) (done s' t') (refused k x y) e l = refl
asked_twice (done s t) (done s' t') (done s'' t'') (refused k x y) l = refl
asked_twice (done s t) (done s' t') (done s'' t'') (done s''' t''') l = refl

-- so the matrix's length can stand for that of an output
pub own_length :
    (rows columns : ℕ) (a : List Float) (room : ℕ)
    → asked (base without_companion) (unary rows columns a (length a ∷ []) room) ≡ asked (base without_companion) (unary rows columns a [] room)
unfolding asked shape_questions
own_length rows columns a room =
    let c : Call = unary rows columns a [] room in
    asked_twice (ask (ltb 0 rows) 1 0 0) (ask (eqb rows columns) 2 rows columns) (at_most 8 rows) (exactly (rows * columns) (length a))
    (at_least8192 room ∷ number_questions (base without_companion) c)

regrouped :
    (s : List Found) (a b c d e : Found)
    → first_no (s ++ (a ∷ b ∷ c ∷ passes ∷ d ∷ e ∷ [])) ≡ first_no ((s ++ (a ∷ b ∷ passes ∷ passes ∷ passes ∷ passes ∷ [])) ++ (c ∷ d ∷ e ∷ []))
unfolding first_no ◌>>=◌
regrouped [] (refused k x y) b c d e = refl
regrouped [] (done s t) (refused k x y) c d e = refl
regrouped [] (done s t) (done s' t') c d e = refl
regrouped (refused k x y ∷ l) a b c d e = refl
regrouped (done s t ∷ l) a b c d e = regrouped l a b c d e

module _ (beside : Companion) (power : Exponent) (domain : Domain) (orders : Orders) (c : Call) where
  pub asked_rest :
      asked (coded beside power domain orders) c ≡ first_no (questions (base beside) c ++ rest power domain orders c)
  unfolding asked shape_questions number_questions
  asked_rest = regrouped (shape_questions (base beside) c) _ _ _ _ _

  module _ (q : Question) (h : found q ≡ asked (base beside) c) where
    -- a refusal of 1 to 7 is the function's
    pub rest_no : {x : Refusal} → q ≡ Err x → found q ≡ asked (coded beside power domain orders) c
    rest_no e = rw asked_rest (stops (rest power domain orders c) (told_asked (base beside) c q h) e).asks

    -- and after them the rest decides
    pub rest_asked : (r : Question) → q ≡ Ok tt → found r ≡ first_no (rest power domain orders c) → found r ≡ asked (coded beside power domain orders) c
    rest_asked r e k = rw asked_rest (goes_on (told_asked (base beside) c q h) e (told r k)).asks

-- ---- what a call is known to be once its questions passed

-- after 1 to 5
pub record Shaped (c : Call) : Type 0 where
  pub filled : 0 < c.rows
  pub square : c.rows ≡ c.columns
  pub small : c.rows ≤ 8
  pub lies : length c.matrix ≡ c.rows * c.columns
  pub long : length c.matrix ≡ c.rows * c.rows
  pub some : 0 < length c.matrix
  pub outputs : Each (λ x. x ≡ c.rows * c.rows) c.outputs
  pub room : 8192 ≤ c.room

-- with a direction
pub record Directed (c : Call) : Type 0 where
  pub height : c.companion_rows ≡ c.rows
  pub width : c.companion_columns ≡ c.rows
  pub lies : length c.companion ≡ c.companion_rows * c.companion_columns
  pub long : length c.companion ≡ c.rows * c.rows

-- after 1 to 6, and with a direction after 1 to 7
pub record Accepted (c : Call) : Type 0 where
  pub shape : Shaped c
  pub entries : (i : ℕ) → i < c.rows * c.rows → T (finite (item c.matrix i))

pub record AcceptedDirection (c : Call) : Type 0 where
  pub shape : Directed c
  pub entries : (i : ℕ) → i < c.rows * c.rows → T (finite (item c.companion i))

module _ (beside : Companion) (power : Exponent) (domain : Domain) (orders : Orders) (c : Call) where
  shaped : output_length beside c ≡ c.rows * c.columns → Each Yes (shape_questions (coded beside power domain orders) c) → Shaped c
  unfolding shape_questions
  shaped w s =
      let square : c.rows ≡ c.columns = eqb-true _ _ (ask_yes _ 2 c.rows c.columns s.1.0) in
      let filled : 0 < c.rows = ltb-true _ _ (ask_yes _ 1 0 0 s.0) in
      let lies : length c.matrix ≡ c.rows * c.columns = exactly_yes _ _ s.1.1.1.1.0 in
      let long : length c.matrix ≡ c.rows * c.rows = rw (← square) at lies in
      let (outs, room) = each_parts Yes (map (exactly (output_length beside c)) c.outputs) (at_least8192 c.room ∷ []) s.1.1.1.1.1.1.1 in
      record {
        filled = filled;
        square = square;
        small = at_most_yes 8 c.rows s.1.1.1.0;
        lies = lies;
        long = long;
        some = rw long (mul-le-mul {n₁ = 1} {m₁ = 1} {n₂ = c.rows} {m₂ = c.rows} filled filled);
        outputs = lengths_yes (c.rows * c.rows) c.outputs (rw (w, ← square) at outs);
        room = leb-true _ _ (ask_yes _ 5 c.room 8192 room.0);
      }

  -- each question of a call that passed
  passed : (q : Question) → found q ≡ asked (coded beside power domain orders) c → q ≡ Ok tt
      → Each Yes (shape_questions (coded beside power domain orders) c) × Each Yes (number_questions (coded beside power domain orders) c)
  passed q h e = each_parts Yes (shape_questions (coded beside power domain orders) c) _ (all_yes (told_asked (coded beside power domain orders) c q h) e)

  entries_finite : Shaped c → Each Yes (number_questions (coded beside power domain orders) c) → (i : ℕ) → i < c.rows * c.rows → T (finite (item c.matrix i))
  unfolding number_questions
  entries_finite s n i h = finite_yes 6 c.columns c.matrix n.0 i (rw s.long h)

module _ (power : Exponent) (domain : Domain) (orders : Orders) (c : Call) where
  pub alone_shape : Each Yes (shape_questions (coded without_companion power domain orders) c) → Shaped c
  alone_shape = shaped without_companion power domain orders c refl

  -- with a direction
  pub beside_shape : Each Yes (shape_questions (coded direction power domain orders) c) → Shaped c
  beside_shape = shaped direction power domain orders c refl

  pub directed_shape : Each Yes (shape_questions (coded direction power domain orders) c) → Directed c
  unfolding shape_questions
  directed_shape s =
      let (height, width, small) = small_direction c.rows c.companion_rows c.companion_columns s.1.1.0 s.1.1.1.0 in
      let lies : length c.companion ≡ c.companion_rows * c.companion_columns = exactly_yes _ _ s.1.1.1.1.1.0 in
      record { height = height; width = width; lies = lies; long = rw (height, width) at lies }

  direction_finite : Directed c → Each Yes (number_questions (coded direction power domain orders) c) → (i : ℕ) → i < c.rows * c.rows → T (finite (item c.companion i))
  unfolding number_questions
  direction_finite s n i h = finite_yes 7 c.companion_columns c.companion n.1.0 i (rw s.long h)

  module _ (q : Question) where
    -- a function of one matrix
    pub accepted : found q ≡ asked (coded without_companion power domain orders) c → q ≡ Ok tt → Accepted c
    accepted h e =
        let (s, n) = passed without_companion power domain orders c q h e in
        let shape = alone_shape s in
        record { shape = shape; entries = entries_finite without_companion power domain orders c shape n }

    -- and of a matrix with a direction
    pub accepted_directed : found q ≡ asked (coded direction power domain orders) c → q ≡ Ok tt → Accepted c × AcceptedDirection c
    accepted_directed h e =
        let (s, n) = passed direction power domain orders c q h e in
        let shape = beside_shape s in
        let fits = directed_shape s in (
          record { shape = shape; entries = entries_finite direction power domain orders c shape n },
          record { shape = fits; entries = direction_finite fits n },
        )
