-- Laws of the questions that kron and kron_sum ask. Assumes nothing.
use Rattle.std.specs.Prelude.{Ok}
use Prim.Native.Nat.{ℕ, ◌*◌, ◌≤◌}
use mathlib.Core.Path.{◌≡◌, refl, ◌∙◌}
use mathlib.Core.List.{List, [], ◌∷◌, ◌++◌}
use lib.Dec.{eqb}
use lib.ListN.{length}
use lib.Ieee.{Float}
use borrow.Author.Tests.{eqb-true}
use Rattle.arithmetic_questions.specs.Result.{Found, ◌>>=◌, ask, first_no}
use Rattle.arithmetic_questions.specs.Questions.{Call, binary, no_room, at_most, exactly, shape_questions, number_questions, asked, of_kron, of_kron_sum}
use Rattle.arithmetic_questions.specs.Answers.{Question, found}
use Rattle.arithmetic_questions.proofs.QuestionLaws.{Yes, Each, each_parts, told, all_yes, ask_yes, at_most_yes, exactly_yes}

-- The sizes that both functions accept.
pub record Sized (m n p q : ℕ) : Type 0 where
  pub rows : m ≤ 64
  pub columns : n ≤ 64
  pub second_rows : p ≤ 64
  pub second_columns : q ≤ 64
  pub row_product : m * p ≤ 64
  pub column_product : n * q ≤ 64

-- The sizes and the lengths.
pub record Fitting (m n : ℕ) (a : List Float) (p q : ℕ) (b : List Float) (out : ℕ) : Type 0 where
  pub sizes : Sized m n p q
  pub matrix : length a ≡ m * n
  pub second : length b ≡ p * q
  pub output : out ≡ (m * p) * (n * q)

module _ (m n p q : ℕ) where
  -- 2 and 3 of kron_sum
  abbrev pub squares : List Found
  squares = ask (eqb m n) 2 m n ∷ ask (eqb p q) 3 p q ∷ []

  -- 4
  abbrev pub products : List Found
  products = at_most 64 m ∷ at_most 64 n ∷ at_most 64 p ∷ at_most 64 q ∷ at_most 64 (m * p) ∷ at_most 64 (n * q) ∷ []

  pub sized : Each Yes products → Sized m n p q
  sized s = record {
    rows = at_most_yes 64 m s.0;
    columns = at_most_yes 64 n s.1.0;
    second_rows = at_most_yes 64 p s.1.1.0;
    second_columns = at_most_yes 64 q s.1.1.1.0;
    row_product = at_most_yes 64 (m * p) s.1.1.1.1.0;
    column_product = at_most_yes 64 (n * q) s.1.1.1.1.1.0;
  }

module _ (m n : ℕ) (a : List Float) (p q : ℕ) (b : List Float) (out : ℕ) where
  -- 5
  abbrev pub slices : List Found
  slices = exactly (m * n) (length a) ∷ exactly (p * q) (length b) ∷ exactly ((m * p) * (n * q)) out ∷ []

  abbrev pub call : Call
  call = binary m n a p q b (out ∷ []) no_room

  pub asked_kron : asked of_kron call ≡ first_no (products m n p q ++ slices)
  unfolding first_no ◌>>=◌ asked shape_questions number_questions
  asked_kron = refl

  pub asked_kron_sum : asked of_kron_sum call ≡ first_no (squares m n p q ++ (products m n p q ++ slices))
  unfolding first_no ◌>>=◌ asked shape_questions number_questions
  asked_kron_sum = refl

  fitting : Each Yes (products m n p q ++ slices) → Fitting m n a p q b out
  fitting s =
      let (sizes, lengths) = each_parts Yes (products m n p q) slices s in
      record {
        sizes = sized m n p q sizes;
        matrix = exactly_yes (m * n) (length a) lengths.0;
        second = exactly_yes (p * q) (length b) lengths.1.0;
        output = exactly_yes ((m * p) * (n * q)) out lengths.1.1.0;
      }

  module _ (r : Question) (e : r ≡ Ok tt) where
    pub kron_fitting : found r ≡ asked of_kron call → Fitting m n a p q b out
    kron_fitting h = fitting (all_yes (told r (h ∙ asked_kron)) e)

    -- both matrices are square
    pub kron_sum_fitting : found r ≡ asked of_kron_sum call → Fitting m m a p p b out
    kron_sum_fitting h =
        let s = all_yes (told r (h ∙ asked_kron_sum)) e in
        rw (← eqb-true m n (ask_yes _ 2 m n s.0), ← eqb-true p q (ask_yes _ 3 p q s.1.0)) at (fitting s.1.1)
