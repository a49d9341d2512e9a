-- The upper left quarter of the exponential of [A E; 0 A] is the exponential of A, bit for bit, at any given number of halvings, whatever
-- E is, provided that each number that the run on the block forms is finite and that LU accepts the block's Padé denominator. (Demand 3.) Assumes nothing.
use mathlib.Core.Path.{◌≡◌, sym, ap, ◌∙◌}
use mathlib.Core.List.{List}
use mathlib.Core.Bool.{Bool, false, cond}
use Prim.Native.Nat.{ℕ, ◌+◌, ◌-◌, ◌^◌, ◌≤◌}
use native.Mathlib.Nat.{lt_of_lt_of_le, le_trans, zero-add}
use native.Mathlib.Omega.{arith}
use lib.Dec.{ltb, lt→ltb, lit≤}
use lib.Arith.{le→nltb}
use lib.Ieee.{Float, Format, binary32, binary64, prec}
use lib.Ieee.Bits.{is_true, is_false}
use Rattle.arithmetic_floats.specs.Float.{+zero}
use Rattle.arithmetic_matrices.specs.Matrix.{at}
use Rattle.arithmetic_questions.specs.Result.{done}
use Rattle.arithmetic_questions.specs.Answers.{Outcome, numbered, reported}
use Rattle.arithmetic_questions.specs.declared.answer.Refusal.{Refusal}
use Rattle.arithmetic_matrices.proofs.MatrixLaws.{at-grid, grid_is}
use Rattle.arithmetic_matrices.proofs.Corner.{Corner}
use Rattle.functions_definitions.specs.Exponential.{exponential, block, quarter}
use Rattle.functions_definitions.specs.Frechet.{Proviso, FirstAlone}
use Rattle.functions_definitions.proofs.HalvingLaws.{not_done}
use Rattle.functions_definitions.proofs.PadeLaws.{exponential_corner, length-exponential}

-- ---- the block
double : (n : ℕ) → n ≤ n + n
double n = omega arith

pub block_corner : (n : ℕ) (a e : List Float) → Corner n (n + n) a (block n a e)
unfolding block
block_corner n a e =
    let g : ℕ → ℕ → Float = λ i j. cond (ltb i n) (cond (ltb j n) (at n a i j) (at n e i (j - n))) (cond (ltb j n) +zero (at n a (i - n) (j - n))) in
    record {
      same = λ i j I J.
          at-grid (n + n) (n + n) g i j (lt_of_lt_of_le I (double n)) (lt_of_lt_of_le J (double n))
          ∙ ap (λ (b : Bool). cond b (cond (ltb j n) (at n a i j) (at n e i (j - n))) (cond (ltb j n) +zero (at n a (i - n) (j - n)))) (is_true (ltb i n) (lt→ltb i n I))
          ∙ ap (λ (b : Bool). cond b (at n a i j) (at n e i (j - n))) (is_true (ltb j n) (lt→ltb j n J));
      below = λ i j l u J. (
        false,
        at-grid (n + n) (n + n) g i j u (lt_of_lt_of_le J (double n))
            ∙ ap (λ (b : Bool). cond b (cond (ltb j n) (at n a i j) (at n e i (j - n))) (cond (ltb j n) +zero (at n a (i - n) (j - n)))) (is_false (ltb i n) (le→nltb i n l))
            ∙ ap (λ (b : Bool). cond b +zero (at n a (i - n) (j - n))) (is_true (ltb j n) (lt→ltb j n J)),
      );
    }

-- the theorem, at every order that the format counts
pub first_output_alone : (f : Format) (n s : ℕ) (a e : List Float) → n + n ≤ 2 ^ prec f → Proviso f n s a e → quarter n 0 (exponential f (n + n) s (block n a e)) ≡ exponential f n s a
unfolding quarter
first_output_alone f n s a e h v =
    let X = exponential f (n + n) s (block n a e) in
    let c = exponential_corner f n (n + n) (double n) h s a (block n a e) (block_corner n a e) v.finite v.accepted in
    sym (grid_is n n (λ i j. at (n + n) X i (0 + j)) (exponential f n s a) (length-exponential f n s a) (λ i j I J. sym (ap (at (n + n) X i) (zero-add j) ∙ c.same i j I J)))

-- each format counts every order that a call takes
pub counted : (f : Format) (n : ℕ) → n ≤ 8 → n + n ≤ 2 ^ prec f
counted f n h = let few : n + n ≤ 16 = omega arith in le_trans few (most f)
  where
    most : (f : Format) → 16 ≤ 2 ^ prec f
    most binary32 = lit≤ tt
    most binary64 = lit≤ tt

-- a refusal says nothing of it
pub refused_alone : (f : Format) (n : ℕ) (a e first : List Float) (o : Outcome) (y : Refusal) → reported o ≡ numbered y → FirstAlone f n o a e first
refused_alone f n a e first o y k s d v = absurd (not_done y s (sym k ∙ d))

-- Two runs on the same A that are done at the same halvings have the same first output, whatever else they were given.
pub same_first : (f : Format) (n s : ℕ) (a e e' first first' : List Float) (o o' : Outcome) → FirstAlone f n o a e first → FirstAlone f n o' a e' first'
    → reported o ≡ done s tt → reported o' ≡ done s tt → Proviso f n s a e → Proviso f n s a e' → first ≡ first'
same_first f n s a e e' first first' o o' F F' d d' v v' = F s d v ∙ sym (F' s d' v')
