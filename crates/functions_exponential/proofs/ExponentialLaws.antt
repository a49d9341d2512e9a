-- Laws of a run of the exponential in a workspace: a term of the Padé sums, a power, and the quotient or the numerator in its place. Assumes nothing.
use Rattle.std.specs.Prelude.{Ok, Err}
use mathlib.Core.Path.{◌≡◌, refl, sym, ap, ◌∙◌, subst}
use mathlib.Core.List.{List, [], ◌∷◌}
use mathlib.Core.Bool.{Bool}
use Prim.Native.Nat.{ℕ, zero, suc, ◌+◌, ◌-◌, ◌*◌, ◌^◌, ◌≤◌, ◌<◌}
use native.Mathlib.Numerals.{add-one}
use native.Mathlib.Omega.{arith}
use lib.Dec.{lit<, lit≤}
use lib.ListN.{length, take, drop}
use lib.Ieee.{Float, Format, binary32, binary64, add, mul, emax, prec}
use borrow.Author.Tests.{eq-eqb, ne_eqb}
use Rattle.arithmetic_floats.specs.Float.{+zero, one, inverse_power_of_two}
use Rattle.arithmetic_matrices.specs.Matrix.{at, item, part}
use Rattle.arithmetic_matrices.specs.Norm.{norm1}
use Rattle.arithmetic_matrices.specs.Product.{zero_m, dot, add_multiple_m, identity_m, times_m, squared, mul_m}
use Rattle.arithmetic_matrices.specs.Workspace.{Room, slot, store, member, Only}
use Rattle.arithmetic_matrices.specs.Kernels.{Squared}
use Rattle.arithmetic_matrices.proofs.MatrixLaws.{grid_is, at-grid, square_le}
use Rattle.arithmetic_matrices.proofs.PartLaws.{take_part, take_rest, rest_length}
use Rattle.arithmetic_matrices.proofs.ProductLaws.{length-zero_m, at-tab, length-add_multiple_m, dot_more, product_comm}
use Rattle.arithmetic_matrices.proofs.Slots.{only_trans, only_more, length-slot, slot_only, only_refl}
use Rattle.arithmetic_matrices.proofs.States.{held, Held, listed, State, start, step_identity, step_zero, step_accumulate, step_call, state_listed, holds_as, held_at, member_among, step_times, step_copy_in, step_copy, step_mult, Holds}
use Rattle.lu_factoring.specs.Lu.{LuOutcome, lu_outcome}
use Rattle.lu_factoring.specs.Pivots.{smallest_pivot}
use Rattle.lu_factoring.specs.Solve.{stand_in, quotient}
use Rattle.lu_factoring.specs.Kernels.{divided}
use Rattle.lu_factoring.proofs.DivisionLaws.{divided_slot, divided_only}
use Rattle.arithmetic_questions.specs.Result.{done, ◌>>=◌, outcome, exit}
use Rattle.arithmetic_questions.specs.Answers.{Outcome, numbered, reported}
use Rattle.arithmetic_questions.specs.Kernels.{Replaced}
use Rattle.arithmetic_questions.specs.Reports.{factored}
use Rattle.arithmetic_questions.specs.declared.answer.Refusal.{Refusal}
use Rattle.arithmetic_questions.specs.declared.answer.Report.{Report}
use Rattle.arithmetic_questions.proofs.BothLaws.{call_refused}
use Rattle.functions_definitions.specs.Powers.{halvings_for, halvings_report}
use Rattle.functions_definitions.specs.Reports.{lu_report, exponential_report, exp_report}
use Rattle.functions_definitions.proofs.HalvingLaws.{halvings_are, halvings_outcome, halvings_set}
use Rattle.functions_definitions.specs.Exponential.{coefficient, next_coefficient, power, combination_to, flipped, flip, numerator, denominator, combination, exponential, pade, scaled}
use Rattle.functions_exponential.specs.Kernels.{next_power, Raised, Summed, PadeQuotient, Approximated, Exponentiated}

-- ---- what the proofs use of a format: it counts as far as the coefficients need, and holds the scale of each number of halvings

pub counts : (f : Format) → 364 ≤ 2 ^ prec f
counts binary32 = lit≤ tt
counts binary64 = lit≤ tt

pub scales : (f : Format) → 64 < emax f
scales binary32 = lit< tt
scales binary64 = lit< tt

-- ---- one term more

coefficient_more : (f : Format) (k : ℕ) → coefficient f (k + 1) ≡ next_coefficient f k (coefficient f k)
unfolding coefficient
coefficient_more f k = rw add-one refl

pub power_more : (f : Format) (n : ℕ) (a : List Float) (k : ℕ) → next_power f n k a (power f n a k) ≡ power f n a (k + 1)
unfolding next_power power
power_more f n a zero = refl
power_more f n a (suc k) = let e : suc (suc k) ≡ suc k + 1 = omega arith in rw (ne_eqb (suc k) 0 (λ z. omega arith)) (ap (power f n a) e)

pub combination_none : (f : Format) (n : ℕ) (c : ℕ → Float) (a : List Float) → zero_m n ≡ combination_to f n c a 0
unfolding combination_to zero_m dot
combination_none f n c a = grid_is n n _ (zero_m n) (length-zero_m n) (λ i j p q. at-tab n (λ k. +zero) i j p q)

pub combination_more : (f : Format) (n : ℕ) (c : ℕ → Float) (a : List Float) (k : ℕ) → add_multiple_m f n (c k) (power f n a k) (combination_to f n c a k) ≡ combination_to f n c a (k + 1)
unfolding combination_to add_multiple_m at
combination_more f n c a k =
    grid_is n n _ (add_multiple_m f n (c k) (power f n a k) (combination_to f n c a k)) (length-add_multiple_m f n (c k) (power f n a k) (combination_to f n c a k))
    (λ i j p q.
    at-tab n (λ m. add f (item (combination_to f n c a k) m) (mul f (item (power f n a k) m) (c k))) i j p q
    ∙ (λ t. add f (at-grid n n (λ i j. dot f k c (λ m. at n (power f n a m) i j)) i j p q t) (product_comm f (at n (power f n a k) i j) (c k) t))
    ∙ sym (dot_more f k c (λ m. at n (power f n a m) i j)))

-- the part that `quotient_or_numerator` returns
quotient_in : {count : ℕ} (n : ℕ) (w : List Float) (o : LuOutcome) → count ≡ n * n → Room n w
    → take count (stand_in o (take (length w - 1280) (drop 1280 w)) (take (length w - 512) (drop 512 w))) ≡ stand_in o (slot n w 5) (slot n w 2)
unfolding slot
quotient_in n w (Ok _) e r = rw (e, take_rest) (take_part w 1280 (n * n) (omega (arith, square_le n r.order, r.space)))
quotient_in n w (Err bad) e r = rw (e, take_rest) (take_part w 512 (n * n) (omega (arith, square_le n r.order, r.space)))

-- over numbers that are seen as floats
module _ {A : Type 0} (floats : List A → List Float) (w : List A) (length_law : (l : List A) → length (floats l) ≡ length l) (take_law : (k : ℕ) (l : List A) → floats (take k l) ≡ take k (floats l))
    (drop_law : (k : ℕ) (l : List A) → floats (drop k l) ≡ drop k (floats l)) where
  seen_rest : (o : ℕ) → floats (take (length w - o) (drop o w)) ≡ take (length (floats w) - o) (drop o (floats w))
  seen_rest o = take_law _ _ ∙ ap (take (length w - o)) (drop_law o w) ∙ ap (λ (k : ℕ). take (k - o) (drop o (floats w))) (sym (length_law w))

  pub rest_is : (o : ℕ) → length (take (length w - o) (drop o w)) ≡ length w - o
  rest_is o = sym (length_law _) ∙ ap length (seen_rest o) ∙ rest_length (floats w) o ∙ ap (λ (k : ℕ). k - o) (length_law w)

  pub quotient_part : {count : ℕ} (n : ℕ) (o : LuOutcome) → count ≡ n * n → Room n (floats w)
      → take count (stand_in o (floats (take (length w - 1280) (drop 1280 w))) (floats (take (length w - 512) (drop 512 w)))) ≡ stand_in o (slot n (floats w) 5) (slot n (floats w) 2)
  quotient_part {count} n o e r = (λ i. take count (stand_in o (seen_rest 1280 i) (seen_rest 512 i))) ∙ quotient_in n (floats w) o e r

-- ---- the Padé sums, term by term

-- what the slots hold once the terms below k are added
abbrev pub sums : Format → ℕ → List Float → ℕ → List (ℕ × Held)
sums f n a k = (0, held n a) ∷ (1, held n (power f n a k)) ∷ (2, held n (combination_to f n (coefficient f) a k)) ∷ (3, held n (combination_to f n (flipped f) a k)) ∷ []

abbrev pub summing : ℕ → Bool
summing = member (1 ∷ 2 ∷ 3 ∷ 4 ∷ [])

-- the terms before k are added, and c is coefficient k
pub record PadeTerms (f : Format) (n : ℕ) (w₀ w : List Float) (c : Float) (k : ℕ) : Type 0 where
  pub within : k ≤ 14
  pub room : Room n w₀
  pub next : c ≡ coefficient f k
  pub state : State summing w₀ w (listed (sums f n (slot n w₀ 0) k))

-- the slots of the whole run
abbrev all : ℕ → Bool
all = member (0 ∷ 1 ∷ 2 ∷ 3 ∷ 4 ∷ 5 ∷ [])

-- the part that `divide` factors
slot_three : (n : ℕ) (w : List Float) → part w 768 (n * n) ≡ slot n w 3
unfolding slot
slot_three n w = refl

-- what stands in for a stand-in
twice : {A : Type 0} (o : LuOutcome) (q b : A) → stand_in o (stand_in o q b) b ≡ stand_in o q b
twice (Ok _) q b = refl
twice (Err bad) q b = refl

pub length-stand_in : {k : ℕ} (o : LuOutcome) (q b : List Float) → length q ≡ k → length b ≡ k → length (stand_in o q b) ≡ k
length-stand_in (Ok _) q b p r = p
length-stand_in (Err bad) q b p r = r

module _ (f : Format) (n : ℕ) (w₀ : List Float) (r : Room n w₀) where
  -- the power after power 0, and after any other
  pub raise_first : (k : ℕ) (w1 : List Float) → k ≡ 0 → w1 ≡ store w₀ 1 (slot n w₀ 0) → Raised f n k w₀ w1
  unfolding next_power
  raise_first k w1 h e =
      let s1 = step_copy n r.order 0 1 (start (member (1 ∷ 4 ∷ [])) n r) e refl refl refl in
      record { raised = held_at 1 n s1 refl ∙ rw (eq-eqb k 0 h); only = s1.only }

  pub raise_more : (k : ℕ) (w1 w2 : List Float) → (k ≡ 0 → ⊥) → w1 ≡ store w₀ 4 (mul_m f n (slot n w₀ 1) (slot n w₀ 0)) → w2 ≡ store w1 1 (slot n w1 4) → Raised f n k w₀ w2
  unfolding next_power
  raise_more k w1 w2 h e1 e2 =
      let s1 = step_mult n r.order f 1 0 4 (start (member (1 ∷ 4 ∷ [])) n r) e1 refl refl refl refl in
      let s2 = step_copy n r.order 4 1 s1 e2 refl refl refl in
      record { raised = held_at 1 n s2 refl ∙ rw (ne_eqb k 0 h); only = s2.only }

  pub sums_none : (w1 w2 w3 : List Float) → w1 ≡ store w₀ 1 (identity_m n) → w2 ≡ store w1 2 (zero_m n) → w3 ≡ store w2 3 (zero_m n) → State summing w₀ w3 (listed (sums f n (slot n w₀ 0) 0))
  unfolding power
  sums_none w1 w2 w3 e1 e2 e3 =
      let a = slot n w₀ 0 in
      let s0 = start summing n r in
      let s1 = step_identity n r.order 1 s0 e1 refl refl in
      let s2 = step_zero n r.order 2 s1 e2 refl refl in
      let s3 = step_zero n r.order 3 s2 e3 refl refl in
      state_listed (sums f n a 0) s3 (s3.holds 0, (s3.holds 1, (holds_as (s3.holds 2) (combination_none f n (coefficient f) a), (holds_as (s3.holds 3) (combination_none f n (flipped f) a), tt))))

  sums_more : (a : List Float) (k : ℕ) (w w1 w2 w3 : List Float) (c d : Float) → State summing w₀ w (listed (sums f n a k)) → c ≡ coefficient f k → d ≡ flip k c
      → w1 ≡ store w 2 (add_multiple_m f n c (slot n w 1) (slot n w 2)) → w2 ≡ store w1 3 (add_multiple_m f n d (slot n w1 1) (slot n w1 3)) → Raised f n k w2 w3 → State summing w₀ w3 (listed (sums f n a (k + 1)))
  sums_more a k w w1 w2 w3 c d H ec ed e1 e2 R =
      let s1 = step_accumulate n r.order f c 2 1 H e1 refl refl refl refl in
      let s2 = step_accumulate n r.order f d 3 1 s1 e2 refl refl refl refl in
      let s3 = step_call (1 ∷ 4 ∷ []) s2 R.only (member_among summing (1 ∷ 4 ∷ []) refl) in
      let next : slot n w3 1 ≡ power f n a (k + 1) = R.raised ∙ (λ i. next_power f n k (held_at 0 n s2 refl i) (held_at 1 n s2 refl i)) ∙ power_more f n a k in
      let ef : d ≡ flipped f k = unfold flipped in ed ∙ ap (flip k) ec in
      let h1 : Holds w3 1 (held n (power f n a (k + 1))) = record { sized = ap length (sym next) ∙ length-slot n w3 1; within = omega (arith, square_le n r.order); reads = next } in
      let h2 = holds_as (s3.holds 2) (ap (λ (x : Float). add_multiple_m f n x (power f n a k) (combination_to f n (coefficient f) a k)) ec ∙ combination_more f n (coefficient f) a k) in
      let h3 = holds_as (s3.holds 3) (ap (λ (x : Float). add_multiple_m f n x (power f n a k) (combination_to f n (flipped f) a k)) ef ∙ combination_more f n (flipped f) a k) in
      state_listed (sums f n a (k + 1)) s3 (s3.holds 0, (h1, (h2, (h3, tt))))

  sums_all : (w : List Float) → State summing w₀ w (listed (sums f n (slot n w₀ 0) 14)) → Summed f n w₀ w
  sums_all w H = record {
    above = unfold numerator combination in held_at 2 n H refl;
    under = unfold denominator combination in held_at 3 n H refl;
    only = H.only;
  }

  -- the sums begin at w, and end at w'
  sums_begin : (w : List Float) → State summing w₀ w (listed (sums f n (slot n w₀ 0) 0)) → State summing w w (listed (sums f n (slot n w 0) 0))
  sums_begin w H =
      subst (λ (a : List Float). State summing w w (listed (sums f n a 0))) (sym (held_at 0 n H refl)) (record { space = H.space; only = only_refl summing w; holds = H.holds })

  pub sums_end : (w w' : List Float) → State summing w₀ w (listed (sums f n (slot n w₀ 0) 0)) → Summed f n w w' → Summed f n w₀ w'
  sums_end w w' H S = record {
    above = S.above ∙ ap (numerator f n) (held_at 0 n H refl);
    under = S.under ∙ ap (denominator f n) (held_at 0 n H refl);
    only = only_trans H.only S.only;
  }

  pub terms_start : (w : List Float) (c : Float) → c ≡ one → State summing w₀ w (listed (sums f n (slot n w₀ 0) 0)) → PadeTerms f n w w c 0
  unfolding coefficient
  terms_start w c e H = record { within = omega arith; room = record { order = r.order; space = H.space }; next = e; state = sums_begin w H }

  -- ---- the quotient, or the numerator in its place

  -- the numerator is copied to slot 5 and divided there by what stands in slot 3
  pub quotient_beside : (w1 w2 : List Float) (o : LuOutcome) → w1 ≡ store w₀ 5 (slot n w₀ 2) → o ≡ lu_outcome f n (part w1 768 (n * n)) → w2 ≡ divided f n n 768 1280 w1 o → PadeQuotient f n w₀ w2 o
  quotient_beside w1 w2 o e1 eo e2 =
      let both = member (3 ∷ 5 ∷ []) in
      let s1 = step_copy n r.order 2 5 (start both n r) e1 refl refl refl in
      let r1 : Room n w1 = record { order = r.order; space = s1.space } in
      let three : slot n w1 3 ≡ slot n w₀ 3 = held_at 3 n s1 refl in
      let five : slot n w1 5 ≡ slot n w₀ 2 = held_at 5 n s1 refl in
      record {
        outcome = eo ∙ ap (lu_outcome f n) (slot_three n w1 ∙ three);
        divided = ap (λ (w : List Float). slot n w 5) e2 ∙ divided_slot f n 3 5 w1 r1 (lit< tt) o refl ∙ (λ i. stand_in o (quotient f n (three i) (five i)) (five i));
        only = only_trans s1.only (rw e2 (divided_only f n 3 5 w1 r1 (lit< tt) o));
      }

  -- the denominator is factored as the sums left it
  pub quotient_reported : (w1 : List Float) (v : Float) → w1 ≡ store w₀ 5 (slot n w₀ 2) → v ≡ smallest_pivot f n (part w1 768 (n * n)) → v ≡ smallest_pivot f n (slot n w₀ 3)
  quotient_reported w1 v e1 ev =
      let s1 = step_copy n r.order 2 5 (start (member (3 ∷ 5 ∷ [])) n r) e1 refl refl refl in
      ev ∙ ap (smallest_pivot f n) (slot_three n w1 ∙ held_at 3 n s1 refl)

  -- the sums, their quotient, and the stand-in
  pub pade_steps : (w1 w2 w3 : List Float) (o : LuOutcome) → Summed f n w₀ w1 → PadeQuotient f n w1 w2 o → w3 ≡ store w2 0 (stand_in o (slot n w2 5) (slot n w2 2)) → Approximated f n w₀ w3
  unfolding pade
  pade_steps w1 w2 w3 o P Q e3 =
      let A = slot n w₀ 0 in
      let s1 = step_call (1 ∷ 2 ∷ 3 ∷ 4 ∷ []) (start all n r) P.only (member_among all (1 ∷ 2 ∷ 3 ∷ 4 ∷ []) refl) in
      let s2 = step_call (3 ∷ 5 ∷ []) s1 Q.only (member_among all (3 ∷ 5 ∷ []) refl) in
      let above : slot n w2 2 ≡ numerator f n A = slot_only n (member (3 ∷ 5 ∷ [])) w1 w2 2 1 Q.only (omega (arith, square_le n r.order)) refl ∙ P.above in
      let eo : o ≡ lu_outcome f n (denominator f n A) = Q.outcome ∙ ap (lu_outcome f n) P.under in
      let q : slot n w2 5 ≡ stand_in o (quotient f n (denominator f n A) (numerator f n A)) (numerator f n A) = Q.divided ∙ (λ i. stand_in o (quotient f n (P.under i) (P.above i)) (P.above i)) in
      let x : stand_in o (slot n w2 5) (slot n w2 2) ≡ stand_in (lu_outcome f n (denominator f n A)) (quotient f n (denominator f n A) (numerator f n A)) (numerator f n A) =
      (λ i. stand_in o (q i) (above i)) ∙ twice o (quotient f n (denominator f n A) (numerator f n A)) (numerator f n A) ∙ ap (λ (z : LuOutcome). stand_in z (quotient f n (denominator f n A) (numerator f n A)) (numerator f n A)) eo in
      let s3 = step_copy_in n r.order 0 (stand_in o (slot n w2 5) (slot n w2 2)) s2 e3 (length-stand_in o (slot n w2 5) (slot n w2 2) (length-slot n w2 5) (length-slot n w2 2)) refl refl in
      record { result = held_at 0 n s3 refl ∙ x; only = s3.only }

  pub pade_reported : (w1 : List Float) (v : Float) (ρ : Report) → Summed f n w₀ w1 → v ≡ smallest_pivot f n (slot n w1 3) → ρ ≡ factored v → ρ ≡ lu_report f n (denominator f n (slot n w₀ 0))
  unfolding lu_report
  pade_reported w1 v ρ P ev e = e ∙ ap factored (ev ∙ ap (smallest_pivot f n) P.under)

  -- scaling, the quotient, and the squarings
  pub exponential_steps : (s : ℕ) (w1 w2 w3 : List Float) → w1 ≡ store w₀ 0 (times_m f n (inverse_power_of_two s) (slot n w₀ 0)) → Approximated f n w1 w2 → Squared f n w2 0 4 s w3 → Exponentiated f n s w₀ w3
  unfolding exponential scaled
  exponential_steps s w1 w2 w3 e1 P Q =
      let s1 = step_times n r.order f (inverse_power_of_two s) 0 0 (start all n r) e1 refl refl refl in
      record {
        result = Q.power ∙ ap (squared f n s) (P.result ∙ ap (pade f n) (held_at 0 n s1 refl));
        only = only_trans s1.only (only_trans P.only (only_more (member_among all (0 ∷ 4 ∷ []) refl) Q.only));
      }

  pub scaled_reported : (s : ℕ) (w1 : List Float) (ρ : Report) → w1 ≡ store w₀ 0 (times_m f n (inverse_power_of_two s) (slot n w₀ 0)) → ρ ≡ lu_report f n (denominator f n (slot n w1 0)) → ρ ≡ exponential_report f n s (slot n w₀ 0)
  unfolding exponential_report scaled
  scaled_reported s w1 ρ e1 e =
      let s1 = step_times n r.order f (inverse_power_of_two s) 0 0 (start all n r) e1 refl refl refl in
      e ∙ ap (λ (a : List Float). lu_report f n (denominator f n a)) (held_at 0 n s1 refl)

-- the halvings of the norm are those that were reported
pub halved_reported : (f : Format) (n s : ℕ) (a : List Float) (o : Outcome) (ρ : Report) → reported o ≡ halvings_report (norm1 f n a) → o ≡ Ok s → ρ ≡ exponential_report f n s a → ρ ≡ exp_report f n a
unfolding exp_report
halved_reported f n s a o ρ H eo e = e ∙ ap (λ (t : ℕ). exponential_report f n t a) (halvings_are (norm1 f n a) s (sym (ap reported eo) ∙ H))

-- ---- a matrix in slot 0 that g replaces at the halvings of the norm x

module _ (ss : List ℕ) (n : ℕ) (g : ℕ → List Float) (x : Float) (o : Outcome) (H : reported o ≡ halvings_report x) (w : List Float) where
  pub halved_none : (y : Refusal) (o' : Outcome) → o ≡ Err y → reported o' ≡ numbered y → Replaced ss n (halvings_for x >>= λ s. done s (g s)) o' w w
  unfolding outcome exit
  halved_none y o' e r =
      let (k, i, j, ex, en) = call_refused (halvings_for x >>= λ s. done s (g s)) o y (H ∙ sym (halvings_outcome x g)) e in
      rw ex (record { outcome = r ∙ en; result = refl; only = only_refl (member ss) w })

  pub halved_done : (s : ℕ) (o' : Outcome) (w' : List Float) → o ≡ Ok s → reported o' ≡ done s tt → slot n w' 0 ≡ g s → Only (member ss) w w' → Replaced ss n (halvings_for x >>= λ s. done s (g s)) o' w w'
  unfolding outcome exit
  halved_done s o' w' e h r k = rw (halvings_set x g s (sym H ∙ ap reported e)) (record { outcome = h; result = r; only = k })

-- ---- a term of the sums, and the last

pub terms_turn : {f : Format} {n : ℕ} {w₀ w w1 w2 w3 : List Float} {c c' d : Float} {k : ℕ} → PadeTerms f n w₀ w c k → k < 14 → d ≡ flip k c
    → w1 ≡ store w 2 (add_multiple_m f n c (slot n w 1) (slot n w 2)) → w2 ≡ store w1 3 (add_multiple_m f n d (slot n w1 1) (slot n w1 3)) → Raised f n k w2 w3 → c' ≡ next_coefficient f k c
    → PadeTerms f n w₀ w3 c' (k + 1)
terms_turn {f} {n} {w₀} {w} {w1} {w2} {w3} {c} {c'} {d} {k} s h ed e1 e2 R e = record {
  within = omega arith;
  room = s.room;
  next = e ∙ ap (next_coefficient f k) s.next ∙ sym (coefficient_more f k);
  state = sums_more f n w₀ s.room (slot n w₀ 0) k w w1 w2 w3 c d s.state s.next ed e1 e2 R;
}

pub terms_end : {f : Format} {n : ℕ} {w₀ w : List Float} {c : Float} {k : ℕ} → PadeTerms f n w₀ w c k → 14 ≤ k → Summed f n w₀ w
terms_end {f} {n} {w₀} {w} {k = k} s h = let e : k ≡ 14 = omega (arith, s.within) in sums_all f n w₀ s.room w (rw e at s.state)
