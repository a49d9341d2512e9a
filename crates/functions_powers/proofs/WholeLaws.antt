-- Laws of whole powers: the bits of the exponent, and a run in a workspace. Assumes nothing.
use Rattle.std.specs.Prelude.{Ok}
use mathlib.Core.Path.{◌≡◌, refl, sym, ap, ◌∙◌, subst}
use mathlib.Core.List.{List, [], ◌∷◌}
use mathlib.Core.Bool.{Bool, true, false, cond}
use mathlib.Core.Logic.{◌⊎◌, inl, inr}
use Prim.Native.Nat.{ℕ, suc, ◌+◌, ◌-◌, ◌/◌, ◌%◌, ◌^◌, ◌≤◌, ◌<◌}
use native.Mathlib.Nat.{div-one, pow-suc, div-div-eq-div-mul, div-eq_of_lt}
use native.Mathlib.Numerals.{add-one}
use native.Mathlib.Decide.{le_ind}
use native.Mathlib.Omega.{arith}
use borrow.Author.Tests.{eq-eqb, ne_eqb, le-ltb}
use lib.Dec.{T, eqb}
use lib.IntN.{ℤ, pos, negsuc, nat_abs, ◌-ℤ◌}
use lib.Signed.{lt_z, non_neg}
use mir.Syntax.{w64}
use mir.Val.{Fits, SFits, to_z, of_z}
use mir.ValLaws.{to_z-of_z}
use lib.Ieee.{Float, Format}
use Rattle.arithmetic_questions.specs.declared.answer.Refusal.TheVariants.{NotConverged}
use Rattle.arithmetic_questions.specs.declared.answer.Report.{Report}
use Rattle.arithmetic_matrices.specs.Product.{mul_m, identity_m, squared}
use Rattle.arithmetic_matrices.specs.Workspace.{Room, slot, store, member, Only}
use Rattle.arithmetic_matrices.specs.Kernels.{Squared}
use Rattle.arithmetic_questions.specs.Result.{done, outcome, exit}
use Rattle.arithmetic_questions.specs.Answers.{Outcome, numbered, reported}
use Rattle.arithmetic_questions.specs.Kernels.{Replaced}
use Rattle.arithmetic_questions.specs.Reports.{nothing, factored}
use Rattle.arithmetic_floats.proofs.Order.{split}
use Rattle.arithmetic_matrices.proofs.Slots.{only_refl, only_trans, only_more, room_kept, slot_kept}
use Rattle.arithmetic_matrices.proofs.States.{State, held, upd, start, held_at, step_identity, step_mult, step_copy, member_among}
use Rattle.lu_factoring.specs.Lu.{LuOutcome, singular, lu_outcome}
use Rattle.lu_factoring.specs.Kernels.{divided}
use Rattle.lu_factoring.specs.Pivots.{smallest_pivot}
use Rattle.lu_factoring.specs.Solve.{division, inverse, quotient, where_factored}
use Rattle.lu_factoring.proofs.DivisionLaws.{divided_slot, divided_only}
use Rattle.functions_definitions.specs.Roots.{or_not_converged}
use Rattle.functions_definitions.specs.Powers.{bit_power, whole_power, inverse_power}
use Rattle.functions_definitions.specs.Reports.{lu_report, whole_report}
use Rattle.functions_powers.specs.Kernels.{BitMultiplied, BitsMultiplied, AllMultiplied, BitPowered, is_negative}

-- ---- bits

-- what is left of e after i bits, and after one more
rest_more : (e i : ℕ) → e / 2 ^ i / 2 ≡ e / 2 ^ suc i
rest_more e i = div-div-eq-div-mul e (2 ^ i) 2 ∙ ap (λ (d : ℕ). e / d) (sym (pow-suc 2 i))

-- bits above the exponent's length change nothing
bits_above : (f : Format) (n : ℕ) (b : List Float) (e i k : ℕ) → e / 2 ^ i ≡ 0 → i ≤ k → bit_power f n b e k ≡ bit_power f n b e i
unfolding bit_power
bits_above f n b e i k h l = (le_ind (λ (m : ℕ). (e / 2 ^ m ≡ 0) × (bit_power f n b e m ≡ bit_power f n b e i)) (h, refl) step k l).1
  where
    step : (m : ℕ) → i ≤ m → (e / 2 ^ m ≡ 0) × (bit_power f n b e m ≡ bit_power f n b e i) → (e / 2 ^ suc m ≡ 0) × (bit_power f n b e (suc m) ≡ bit_power f n b e i)
    step m p q = (
      sym (rest_more e m) ∙ ap (λ (d : ℕ). d / 2) q.0,
      ap (λ (d : ℕ). cond (eqb (d % 2) 1) (mul_m f n (bit_power f n b e m) (squared f n m b)) (bit_power f n b e m)) q.0 ∙ q.1,
    )

-- so two numbers of bits that reach past the exponent give the same power
same_bits : (f : Format) (n : ℕ) (b : List Float) (e i k : ℕ) → e / 2 ^ i ≡ 0 → e / 2 ^ k ≡ 0 → bit_power f n b e i ≡ bit_power f n b e k
same_bits f n b e i k p q = go (split i k)
  where
    go : (i < k) ⊎ (k ≤ i) → bit_power f n b e i ≡ bit_power f n b e k
    go (inl l) = sym (bits_above f n b e i k p (omega arith))
    go (inr l) = bits_above f n b e k i q l

-- the lowest bits of e are done, and `rest` is what is left of e
pub record BitsDone (f : Format) (n e : ℕ) (w₀ w : List Float) (rest : ℕ) : Type 0 where
  pub bits : ℕ
  pub left : rest ≡ e / 2 ^ bits
  pub multiplied : BitsMultiplied f n e bits w₀ w

module _ (f : Format) (n : ℕ) (w₀ : List Float) (r : Room n w₀) where
  -- ---- a bit

  pub bit_set : (rest : ℕ) (w1 w2 : List Float) → rest % 2 ≡ 1 → w1 ≡ store w₀ 2 (mul_m f n (slot n w₀ 1) (slot n w₀ 0)) → w2 ≡ store w1 1 (slot n w1 2) → BitMultiplied f n rest w₀ w2
  bit_set rest w1 w2 h e1 e2 =
      let s1 = step_mult n r.order f 1 0 2 (start (member (1 ∷ 2 ∷ [])) n r) e1 refl refl refl refl in
      let s2 = step_copy n r.order 2 1 s1 e2 refl refl refl in
      record { product = held_at 1 n s2 refl ∙ rw (eq-eqb (rest % 2) 1 h); only = s2.only }

  pub bit_clear : (rest : ℕ) → (rest % 2 ≡ 1 → ⊥) → BitMultiplied f n rest w₀ w₀
  bit_clear rest h = record { product = rw (ne_eqb (rest % 2) 1 h); only = only_refl (member (1 ∷ 2 ∷ [])) w₀ }

  -- ---- all bits

  bits_none : (e : ℕ) → slot n w₀ 1 ≡ identity_m n → BitsMultiplied f n e 0 w₀ w₀
  unfolding bit_power squared
  bits_none e h = record { power = refl; product = h; only = only_refl (member (0 ∷ 1 ∷ 2 ∷ [])) w₀ }

  module _ (e i rest : ℕ) (w w1 : List Float) (B : BitsMultiplied f n e i w₀ w) (left : rest ≡ e / 2 ^ i) (M : BitMultiplied f n rest w w1) where
    -- the product after one bit more
    product_more : slot n w1 1 ≡ bit_power f n (slot n w₀ 0) e (suc i)
    unfolding bit_power
    product_more = M.product ∙ (λ j. cond (eqb (left j % 2) 1) (mul_m f n (B.product j) (B.power j)) (B.product j))

    bits_more : (w2 : List Float) → Squared f n w1 0 2 1 w2 → BitsMultiplied f n e (suc i) w₀ w2
    unfolding squared
    bits_more w2 S =
        let all = member (0 ∷ 1 ∷ 2 ∷ []) in
        let r0 : Room n w = room_kept r B.only.long in
        let r1 : Room n w1 = room_kept r0 M.only.long in
        let p1 : slot n w1 0 ≡ squared f n i (slot n w₀ 0) = slot_kept n (1 ∷ 2 ∷ []) r0 M.only 0 refl ∙ B.power in
        record {
          power = S.power ∙ (λ j. mul_m f n (p1 j) (p1 j));
          product = slot_kept n (0 ∷ 2 ∷ []) r1 S.only 1 refl ∙ product_more;
          only = only_trans B.only (only_trans (only_more (member_among all (1 ∷ 2 ∷ []) refl) M.only) (only_more (member_among all (0 ∷ 2 ∷ []) refl) S.only));
        }

    -- the last bit
    bits_all : e < 2 ^ 64 → rest ≤ 1 → AllMultiplied f n e w₀ w1
    bits_all fits last =
        let none : e / 2 ^ suc i ≡ 0 = sym (rest_more e i) ∙ ap (λ (d : ℕ). d / 2) (sym left) ∙ div-eq_of_lt {n = rest} {m = 2} (omega arith) in
        record {
          product = product_more ∙ same_bits f n (slot n w₀ 0) e (suc i) 64 none (div-eq_of_lt fits);
          only = only_trans B.only (only_more (member_among (member (0 ∷ 1 ∷ 2 ∷ [])) (1 ∷ 2 ∷ []) refl) M.only);
        }

  pub bits_start : (e : ℕ) → slot n w₀ 1 ≡ identity_m n → BitsDone f n e w₀ w₀ e
  bits_start e h = record { bits = 0; left = sym (div-one e); multiplied = bits_none e h }

  module _ {e rest : ℕ} {w w1 : List Float} (s : BitsDone f n e w₀ w rest) (M : BitMultiplied f n rest w w1) where
    pub bits_turn : {w2 : List Float} → Squared f n w1 0 2 1 w2 → BitsDone f n e w₀ w2 (rest / 2)
    bits_turn {w2} S = record {
      bits = suc s.bits;
      left = ap (λ (d : ℕ). d / 2) s.left ∙ rest_more e s.bits;
      multiplied = bits_more e s.bits rest w w1 s.multiplied s.left M w2 S;
    }

    pub bits_end : e < 2 ^ 64 → rest ≤ 1 → AllMultiplied f n e w₀ w1
    bits_end fits last = bits_all e s.bits rest w w1 s.multiplied s.left M fits last

  pub identity_first : (w1 : List Float) → w1 ≡ store w₀ 1 (identity_m n) → slot n w1 1 ≡ identity_m n
  identity_first w1 e1 = held_at 1 n (step_identity n r.order 1 (start (member (1 ∷ [])) n r) e1 refl refl) refl

  pub power_steps : (e : ℕ) (w1 w2 w3 : List Float) → w1 ≡ store w₀ 1 (identity_m n) → AllMultiplied f n e w1 w2 → w3 ≡ store w2 0 (slot n w2 1) → BitPowered f n e w₀ w3
  power_steps e w1 w2 w3 e1 A e3 =
      let all = member (0 ∷ 1 ∷ 2 ∷ []) in
      let s1 = step_identity n r.order 1 (start all n r) e1 refl refl in
      let o2 = only_trans s1.only A.only in
      let s3 = step_copy n r.order 1 0 (start all n (room_kept r o2.long)) e3 refl refl refl in
      record { result = held_at 0 n s3 refl ∙ A.product ∙ ap (λ (b : List Float). bit_power f n b e 64) (held_at 0 n s1 refl); only = only_trans o2 s3.only }

  -- ---- the inverse

  module _ (v w1 : List Float) (o : LuOutcome) (eo : o ≡ lu_outcome f n (slot n w₀ 0)) (e : v ≡ store w₀ 1 (identity_m n)) (e1 : w1 ≡ divided f n n 0 256 v o) where
    beside : State (member (0 ∷ 1 ∷ [])) w₀ v (upd (λ s. held n (slot n w₀ s)) 1 (held n (identity_m n)))
    beside = step_identity n r.order 1 (start (member (0 ∷ 1 ∷ [])) n r) e refl refl

    room : Room n v
    room = record { order = r.order; space = beside.space }

    changed : Only (member (0 ∷ 1 ∷ [])) w₀ w1
    changed = only_trans beside.only (subst (λ (w : List Float). Only (member (0 ∷ 1 ∷ [])) v w) (sym e1) (divided_only f n 0 1 v room (omega arith) o))

    pub inverse_none : (k : ℕ) (o' : Outcome) → o ≡ singular k → reported o' ≡ numbered NotConverged → Replaced (0 ∷ 1 ∷ []) n (or_not_converged (inverse f n (slot n w₀ 0))) o' w₀ w1
    unfolding inverse division outcome exit
    inverse_none k o' s h = subst (λ (l : LuOutcome). Replaced (0 ∷ 1 ∷ []) n (or_not_converged (where_factored l (quotient f n (slot n w₀ 0) (identity_m n)))) o' w₀ w1) (sym s ∙ eo)
        (record { outcome = h; result = refl; only = changed })

    pub inverse_done : (w2 : List Float) → o ≡ Ok tt → w2 ≡ store w1 0 (slot n w1 1) → Replaced (0 ∷ 1 ∷ []) n (or_not_converged (inverse f n (slot n w₀ 0))) (Ok 0) w₀ w2
    unfolding inverse division outcome exit
    inverse_done w2 s e2 =
        let S2 = step_copy n r.order 1 0 (start (member (0 ∷ 1 ∷ [])) n (room_kept r changed.long)) e2 refl refl refl in
        let q : slot n w1 1 ≡ quotient f n (slot n w₀ 0) (identity_m n) =
        ap (λ (w : List Float). slot n w 1) (e1 ∙ ap (divided f n n 0 256 v) s) ∙ divided_slot f n 0 1 v room (omega arith) (Ok tt) refl ∙ (λ i. quotient f n (held_at 0 n beside refl i) (held_at 1 n beside refl i)) in
        subst (λ (l : LuOutcome). Replaced (0 ∷ 1 ∷ []) n (or_not_converged (where_factored l (quotient f n (slot n w₀ 0) (identity_m n)))) (Ok 0) w₀ w2) (sym s ∙ eo)
        (record { outcome = refl; result = held_at 0 n S2 refl ∙ q; only = only_trans changed S2.only })

-- the report of the factoring
pub inverse_reported : (f : Format) (n : ℕ) (a : List Float) (v : Float) (ρ : Report) → v ≡ smallest_pivot f n a → ρ ≡ factored v → ρ ≡ lu_report f n a
unfolding lu_report
inverse_reported f n a v ρ e h = h ∙ ap factored e

-- ---- the sign

-- a signed number is read back from its bits
pub sign_test : (e : ℤ) → SFits w64 e → lt_z (to_z w64 (of_z w64 e)) (pos 0) ≡ is_negative e
sign_test e h = ap (λ (z : ℤ). lt_z z (pos 0)) (to_z-of_z w64 e h) ∙ go e
  where
    go : (e : ℤ) → lt_z e (pos 0) ≡ is_negative e
    go (pos k) = le-ltb k 0 (omega arith)
    go (negsuc k) = refl

-- what a function of its bits says of it
pub sign_of : {b r : Bool} (e : ℤ) → SFits w64 e → r ≡ is_negative (to_z w64 (of_z w64 e)) → r ≡ b → is_negative e ≡ b
sign_of e h p q = ap is_negative (sym (to_z-of_z w64 e h)) ∙ sym p ∙ q

pub size_read : {k : ℕ} (e : ℤ) → SFits w64 e → k ≡ nat_abs (to_z w64 (of_z w64 e)) → k ≡ nat_abs e
size_read e h p = p ∙ ap nat_abs (to_z-of_z w64 e h)

-- -1 - e, for a negative e, is one less than its magnitude
pub record Complement (e : ℤ) : Type 0 where
  pub below : ℕ
  pub small : below < 2 ^ 63
  pub size : nat_abs e ≡ below + 1
  pub value : negsuc 0 -ℤ to_z w64 (of_z w64 e) ≡ pos below
  pub again : to_z w64 (of_z w64 (negsuc 0 -ℤ to_z w64 (of_z w64 e))) ≡ pos below

pub complement : (e : ℤ) → SFits w64 e → is_negative e ≡ true → Complement e
complement (pos k) h n = let z : ◌≡◌ {A = ℕ} 0 1 = cc in absurd (omega arith)
complement (negsuc k) h n =
    let s : k < 2 ^ 63 = h.sfits in
    let v : negsuc 0 -ℤ to_z w64 (of_z w64 (negsuc k)) ≡ pos k = ap (λ (z : ℤ). negsuc 0 -ℤ z) (to_z-of_z w64 (negsuc k) h) ∙ less k in
    record { below = k; small = s; size = sym (add-one k); value = v; again = ap (λ (z : ℤ). to_z w64 (of_z w64 z)) v ∙ to_z-of_z w64 (pos k) (record { sfits = s }) }
  where
    less : (k : ℕ) → negsuc 0 -ℤ negsuc k ≡ pos k
    less k = let e : suc k - 1 ≡ k = omega arith in ap (λ (b : Bool). cond b (negsuc (1 - suc (suc k))) (pos (suc k - 1))) (le-ltb (suc k) 1 (omega arith)) ∙ ap pos e

-- a number that is not negative is its own magnitude
pub plain : (e : ℤ) → SFits w64 e → is_negative e ≡ false → T (non_neg (to_z w64 (of_z w64 e))) × Fits w64 (nat_abs (to_z w64 (of_z w64 e)))
plain (pos k) h n = rw (to_z-of_z w64 (pos k) h) (tt, record { fits = omega (arith, h.sfits) })
plain (negsuc k) h n = let z : ◌≡◌ {A = ℕ} 0 1 = cc in absurd (omega arith)

pub whole_negative : (f : Format) (n : ℕ) (a : List Float) (e : ℤ) → is_negative e ≡ true → whole_power f n a e ≡ inverse_power f n a (nat_abs e)
unfolding whole_power
whole_negative f n a (pos e) h = let z : ◌≡◌ {A = ℕ} 0 1 = cc in absurd (omega arith)
whole_negative f n a (negsuc e) h = refl

pub whole_positive : (f : Format) (n : ℕ) (a : List Float) (e : ℤ) → is_negative e ≡ false → whole_power f n a e ≡ done 0 (bit_power f n a (nat_abs e) 64)
unfolding whole_power
whole_positive f n a (pos e) h = refl
whole_positive f n a (negsuc e) h = let z : ◌≡◌ {A = ℕ} 0 1 = cc in absurd (omega arith)

-- and so do their reports
pub reports_negative : (f : Format) (n : ℕ) (a : List Float) (e : ℤ) → is_negative e ≡ true → lu_report f n a ≡ whole_report f n a e
unfolding whole_report
reports_negative f n a (pos e) h = let z : ◌≡◌ {A = ℕ} 0 1 = cc in absurd (omega arith)
reports_negative f n a (negsuc e) h = refl

pub reports_positive : (f : Format) (n : ℕ) (a : List Float) (e : ℤ) → is_negative e ≡ false → nothing ≡ whole_report f n a e
unfolding whole_report
reports_positive f n a (pos e) h = refl
reports_positive f n a (negsuc e) h = let z : ◌≡◌ {A = ℕ} 0 1 = cc in absurd (omega arith)

-- an exponent that is passed to another function
pub exponent_read : {k : ℤ} (e : ℤ) → SFits w64 e → e ≡ k → to_z w64 (of_z w64 e) ≡ k
exponent_read e h p = to_z-of_z w64 e h ∙ p
