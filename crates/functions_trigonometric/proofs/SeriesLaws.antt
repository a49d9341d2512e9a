-- Laws of a run of cosine and sine in a workspace: their sums, and the doublings. Assumes nothing.
use Rattle.std.specs.Prelude.{Ok}
use mathlib.Core.Path.{◌≡◌, refl, sym, ap, ◌∙◌}
use mathlib.Core.List.{List, [], ◌∷◌}
use Prim.Native.Nat.{ℕ, ◌+◌, ◌<◌}
use native.Mathlib.Numerals.{add-one}
use native.Mathlib.Omega.{arith}
use lib.Ieee.{Float, Format, add}
use Rattle.arithmetic_floats.specs.Float.{one, power_of_two, inverse_power_of_two}
use Rattle.arithmetic_matrices.specs.Product.{mul_m, times_m, identity_m, minus_identity_m, deduct_m, add_multiple_m}
use Rattle.arithmetic_matrices.specs.Workspace.{Room, slot, store, member, Only}
use Rattle.arithmetic_matrices.specs.Norm.{norm1}
use Rattle.arithmetic_matrices.proofs.MatrixLaws.{square_le}
use Rattle.arithmetic_matrices.proofs.ProductLaws.{length-mul_m, length-times_m}
use Rattle.arithmetic_matrices.proofs.Slots.{slot_store, room_kept, room_within, member_here, member_next, only_refl, only_trans, only_more, only_store, slot_kept}
use Rattle.arithmetic_matrices.proofs.States.{start, held_at, step_mult, step_identity, step_deduct, step_accumulate, step_minus_identity, step_times, step_copy, step_call, member_among}
use Rattle.arithmetic_questions.specs.Answers.{Question, found}
use Rattle.arithmetic_questions.specs.Questions.{Call, asked, without_exponent, anywhere, orders_from_two, of_cosm}
use Rattle.arithmetic_questions.proofs.OutputLaws.{Late}
use Rattle.arithmetic_questions.proofs.QuestionLaws.{Shaped, accepted}
use Rattle.functions_definitions.specs.Exponential.{scaled}
use Rattle.functions_definitions.proofs.HalvingLaws.{halvings_late}
use Rattle.functions_definitions.specs.Trigonometric.{one_over, cosine_to6, cosine_to8, cosine_beside, sine_to7, twice_product, double_cosine, double_sine, cosine_doubled, sine_doubled, cosine_at, sine_at, trigonometric_halvings, cos_m, sin_m}
use Rattle.functions_trigonometric.specs.Kernels.{EvenPowers, Sixth, Beside, Eighth, OddPowers, Seventh, BothSeries, Doubled, CosineDoubled, BothDoubled, CosineAfter, BothAfter, CosineRun, SineRun}

module _ (f : Format) (n : ℕ) (w₀ : List Float) (r : Room n w₀) where
  -- ---- the cosine's sums

  pub even_steps : (w1 w2 w3 : List Float) → w1 ≡ store w₀ 1 (mul_m f n (slot n w₀ 0) (slot n w₀ 0)) → w2 ≡ store w1 2 (mul_m f n (slot n w1 1) (slot n w1 1)) → w3 ≡ store w2 3 (mul_m f n (slot n w2 2) (slot n w2 1))
      → EvenPowers f n w₀ w3
  even_steps w1 w2 w3 e1 e2 e3 =
      let s1 = step_mult n r.order f 0 0 1 (start (member (1 ∷ 2 ∷ 3 ∷ [])) n r) e1 refl refl refl refl in
      let s2 = step_mult n r.order f 1 1 2 s1 e2 refl refl refl refl in
      let s3 = step_mult n r.order f 2 1 3 s2 e3 refl refl refl refl in
      record { second = held_at 1 n s3 refl; fourth = held_at 2 n s3 refl; sixth = held_at 3 n s3 refl; only = s3.only }

  pub sixth_steps : (w1 w2 w3 w4 : List Float) (a b c : Float) → a ≡ one_over f 2 → b ≡ one_over f 24 → c ≡ one_over f 720
      → w1 ≡ store w₀ 4 (identity_m n) → w2 ≡ store w1 4 (deduct_m f n a (slot n w1 1) (slot n w1 4)) → w3 ≡ store w2 4 (add_multiple_m f n b (slot n w2 2) (slot n w2 4)) → w4 ≡ store w3 4 (deduct_m f n c (slot n w3 3) (slot n w3 4))
      → Sixth f n w₀ w4
  unfolding cosine_to6
  sixth_steps w1 w2 w3 w4 a b c ea eb ec e1 e2 e3 e4 =
      let x2 = slot n w₀ 1 in
      let x4 = slot n w₀ 2 in
      let x6 = slot n w₀ 3 in
      let s1 = step_identity n r.order 4 (start (member (4 ∷ [])) n r) e1 refl refl in
      let s2 = step_deduct n r.order f a 4 1 s1 e2 refl refl refl refl in
      let s3 = step_accumulate n r.order f b 4 2 s2 e3 refl refl refl refl in
      let s4 = step_deduct n r.order f c 4 3 s3 e4 refl refl refl refl in
      record {
        summed = held_at 4 n s4 refl
            ∙ (λ i. deduct_m f n (ec i) x6 (add_multiple_m f n (eb i) x4 (deduct_m f n (ea i) x2 (identity_m n))));
        only = s4.only;
      }

  pub beside_steps : (w1 w2 : List Float) → EvenPowers f n w₀ w1 → Sixth f n w1 w2 → Beside f n w₀ w2
  unfolding cosine_beside
  beside_steps w1 w2 E S =
      let all = member (1 ∷ 2 ∷ 3 ∷ 4 ∷ []) in
      let s1 = step_call (1 ∷ 2 ∷ 3 ∷ []) (start all n r) E.only (member_among all (1 ∷ 2 ∷ 3 ∷ []) refl) in
      let r1 : Room n w1 = record { order = r.order; space = s1.space } in
      record {
        second = slot_kept n (4 ∷ []) r1 S.only 1 refl ∙ E.second;
        sixth = slot_kept n (4 ∷ []) r1 S.only 3 refl ∙ E.sixth;
        cosine = S.summed ∙ (λ i. cosine_to6 f n (E.second i) (E.fourth i) (E.sixth i));
        only = only_trans s1.only (only_more (member_among all (4 ∷ []) refl) S.only);
      }

  pub eighth_steps : (w1 w2 w3 : List Float) (a : Float) → a ≡ one_over f 40320 → Beside f n w₀ w1 → w2 ≡ store w1 0 (mul_m f n (slot n w1 3) (slot n w1 1)) → w3 ≡ store w2 4 (add_multiple_m f n a (slot n w2 0) (slot n w2 4))
      → Eighth f n w₀ w3
  unfolding cosine_to8 cosine_beside
  eighth_steps w1 w2 w3 a ea B e2 e3 =
      let all = member (0 ∷ 1 ∷ 2 ∷ 3 ∷ 4 ∷ []) in
      let x = slot n w₀ 0 in
      let r1 : Room n w1 = record { order = r.order; space = rw B.only.long r.space } in
      let s2 = step_mult n r.order f 3 1 0 (start all n r1) e2 refl refl refl refl in
      let s3 = step_accumulate n r.order f a 4 0 s2 e3 refl refl refl refl in
      record {
        cosine = held_at 4 n s3 refl
            ∙ (λ i. add_multiple_m f n (ea i) (mul_m f n (B.sixth i) (B.second i)) (B.cosine i));
        only = only_trans (only_more (member_among all (1 ∷ 2 ∷ 3 ∷ 4 ∷ []) refl) B.only) s3.only;
      }

  -- ---- the sine's sum

  pub odd_steps : (w1 w2 w3 : List Float) → w1 ≡ store w₀ 2 (mul_m f n (slot n w₀ 1) (slot n w₀ 0)) → w2 ≡ store w1 3 (mul_m f n (slot n w1 2) (slot n w1 1)) → w3 ≡ store w2 5 (mul_m f n (slot n w2 3) (slot n w2 1))
      → OddPowers f n w₀ w3
  odd_steps w1 w2 w3 e1 e2 e3 =
      let s1 = step_mult n r.order f 1 0 2 (start (member (2 ∷ 3 ∷ 5 ∷ [])) n r) e1 refl refl refl refl in
      let s2 = step_mult n r.order f 2 1 3 s1 e2 refl refl refl refl in
      let s3 = step_mult n r.order f 3 1 5 s2 e3 refl refl refl refl in
      record { third = held_at 2 n s3 refl; fifth = held_at 3 n s3 refl; seventh = held_at 5 n s3 refl; only = s3.only }

  pub seventh_steps : (w1 w2 w3 : List Float) (a b c : Float) → a ≡ one_over f 6 → b ≡ one_over f 120 → c ≡ one_over f 5040
      → w1 ≡ store w₀ 0 (deduct_m f n a (slot n w₀ 2) (slot n w₀ 0)) → w2 ≡ store w1 0 (add_multiple_m f n b (slot n w1 3) (slot n w1 0)) → w3 ≡ store w2 0 (deduct_m f n c (slot n w2 5) (slot n w2 0))
      → Seventh f n w₀ w3
  seventh_steps w1 w2 w3 a b c ea eb ec e1 e2 e3 =
      let x = slot n w₀ 0 in
      let x3 = slot n w₀ 2 in
      let x5 = slot n w₀ 3 in
      let x7 = slot n w₀ 5 in
      let s1 = step_deduct n r.order f a 0 2 (start (member (0 ∷ [])) n r) e1 refl refl refl refl in
      let s2 = step_accumulate n r.order f b 0 3 s1 e2 refl refl refl refl in
      let s3 = step_deduct n r.order f c 0 5 s2 e3 refl refl refl refl in
      record {
        summed = held_at 0 n s3 refl
            ∙ (λ i. deduct_m f n (ec i) x7 (add_multiple_m f n (eb i) x5 (deduct_m f n (ea i) x3 x)));
        only = s3.only;
      }

  pub both_steps : (w1 w2 w3 : List Float) → Beside f n w₀ w1 → OddPowers f n w1 w2 → Seventh f n w2 w3 → BothSeries f n w₀ w3
  unfolding sine_to7
  both_steps w1 w2 w3 B O S =
      let all = member (0 ∷ 1 ∷ 2 ∷ 3 ∷ 4 ∷ 5 ∷ []) in
      let s1 = step_call (1 ∷ 2 ∷ 3 ∷ 4 ∷ []) (start all n r) B.only (member_among all (1 ∷ 2 ∷ 3 ∷ 4 ∷ []) refl) in
      let s2 = step_call (2 ∷ 3 ∷ 5 ∷ []) s1 O.only (member_among all (2 ∷ 3 ∷ 5 ∷ []) refl) in
      let r1 : Room n w1 = record { order = r.order; space = s1.space } in
      let r2 : Room n w2 = record { order = r.order; space = s2.space } in
      let x1 : slot n w1 0 ≡ slot n w₀ 0 = held_at 0 n s1 refl in
      let x2 : slot n w2 0 ≡ slot n w₀ 0 = held_at 0 n s2 refl in
      record {
        sine = S.summed
            ∙ (λ i. deduct_m f n (one_over f 5040) (O.seventh i) (add_multiple_m f n (one_over f 120) (O.fifth i) (deduct_m f n (one_over f 6) (O.third i) (x2 i))))
            ∙ (λ i. let q = B.second i in let t = mul_m f n q (x1 i) in let v = mul_m f n t q in
            deduct_m f n (one_over f 5040) (mul_m f n v q) (add_multiple_m f n (one_over f 120) v (deduct_m f n (one_over f 6) t (slot n w₀ 0))));
        cosine = slot_kept n (0 ∷ []) r2 S.only 4 refl ∙ slot_kept n (2 ∷ 3 ∷ 5 ∷ []) r1 O.only 4 refl ∙ B.cosine;
        only = only_trans s2.only (only_more (member_among all (0 ∷ []) refl) S.only);
      }

  -- ---- doubling

  pub double_steps : (c : ℕ) (w1 w2 : List Float) (two : Float) → c < 32 → two ≡ power_of_two 1 → w1 ≡ store w₀ 1 (mul_m f n (slot n w₀ c) (slot n w₀ 4)) → w2 ≡ store w1 c (times_m f n two (slot n w1 1)) → Doubled f n c w₀ w2
  double_steps c w1 w2 two small e e1 e2 =
      let M = mul_m f n (slot n w₀ c) (slot n w₀ 4) in
      let D = times_m f n two (slot n w1 1) in
      let few = square_le n r.order in
      let o1 : Only (member (c ∷ 1 ∷ [])) w₀ w1 = rw e1 (only_store (member (c ∷ 1 ∷ [])) w₀ 1 M (member_next c (1 ∷ []) 1 refl) (omega (arith, few, length-mul_m f n (slot n w₀ c) (slot n w₀ 4)))) in
      let o2 : Only (member (c ∷ 1 ∷ [])) w1 w2 = rw e2 (only_store (member (c ∷ 1 ∷ [])) w1 c D (member_here c (1 ∷ [])) (omega (arith, few, length-times_m f n two (slot n w1 1)))) in
      let m1 : slot n w1 1 ≡ M = ap (λ (w : List Float). slot n w 1) e1 ∙ slot_store n w₀ 1 M (length-mul_m f n (slot n w₀ c) (slot n w₀ 4)) (room_within 1 r (omega arith)) in
      let m2 : slot n w2 c ≡ D = ap (λ (w : List Float). slot n w c) e2 ∙ slot_store n w1 c D (length-times_m f n two (slot n w1 1)) (room_within {w = w1} c (room_kept r o1.long) small) in
      record { product = m2 ∙ (λ i. times_m f n (e i) (m1 i)); only = only_trans o1 o2 }

  pub double_cosine_steps : (w1 w2 : List Float) → Doubled f n 4 w₀ w1 → w2 ≡ store w1 4 (minus_identity_m f n (slot n w1 4)) → CosineDoubled f n w₀ w2
  double_cosine_steps w1 w2 D e2 =
      let all = member (1 ∷ 4 ∷ []) in
      let s2 = step_minus_identity n r.order f 4 (start all n (room_kept r D.only.long)) e2 refl refl refl in
      record { cosine = held_at 4 n s2 refl ∙ ap (minus_identity_m f n) D.product; only = only_trans (only_more (member_among all (4 ∷ 1 ∷ []) refl) D.only) s2.only }

  pub double_angle_steps : (w1 w2 w3 : List Float) → Doubled f n 0 w₀ w1 → Doubled f n 4 w1 w2 → w3 ≡ store w2 4 (minus_identity_m f n (slot n w2 4)) → BothDoubled f n w₀ w3
  double_angle_steps w1 w2 w3 S C e3 =
      let all = member (0 ∷ 1 ∷ 4 ∷ []) in
      let r1 : Room n w1 = room_kept r S.only.long in
      let r2 : Room n w2 = room_kept r1 C.only.long in
      let s3 = step_minus_identity n r.order f 4 (start all n r2) e3 refl refl refl in
      let c1 : slot n w1 4 ≡ slot n w₀ 4 = slot_kept n (0 ∷ 1 ∷ []) r S.only 4 refl in
      record {
        sine = held_at 0 n s3 refl ∙ slot_kept n (4 ∷ 1 ∷ []) r1 C.only 0 refl ∙ S.product;
        cosine = held_at 4 n s3 refl ∙ ap (minus_identity_m f n) (C.product ∙ (λ i. twice_product f n (c1 i) (c1 i)));
        only = only_trans (only_more (member_among all (0 ∷ 1 ∷ []) refl) S.only) (only_trans (only_more (member_among all (4 ∷ 1 ∷ []) refl) C.only) s3.only);
      }

  pub cosine_none : CosineAfter f n w₀ 0 w₀
  unfolding cosine_doubled
  cosine_none = record { cosine = refl; only = only_refl (member (1 ∷ 4 ∷ [])) w₀ }

  pub cosine_more : (i : ℕ) (w w1 : List Float) → CosineAfter f n w₀ i w → CosineDoubled f n w w1 → CosineAfter f n w₀ (i + 1) w1
  unfolding cosine_doubled
  cosine_more i w w1 A D = record {
    cosine = D.cosine ∙ ap (double_cosine f n) A.cosine ∙ ap (cosine_doubled f n (slot n w₀ 4)) (sym (add-one i));
    only = only_trans A.only D.only;
  }

  pub both_none : BothAfter f n w₀ 0 w₀
  unfolding cosine_doubled sine_doubled
  both_none = record { sine = refl; cosine = refl; only = only_refl (member (0 ∷ 1 ∷ 4 ∷ [])) w₀ }

  pub both_more : (i : ℕ) (w w1 : List Float) → BothAfter f n w₀ i w → BothDoubled f n w w1 → BothAfter f n w₀ (i + 1) w1
  unfolding cosine_doubled sine_doubled
  both_more i w w1 A D = record {
    sine = D.sine ∙ (λ j. double_sine f n (A.sine j) (A.cosine j)) ∙ ap (sine_doubled f n (slot n w₀ 0) (slot n w₀ 4)) (sym (add-one i));
    cosine = D.cosine ∙ ap (double_cosine f n) A.cosine ∙ ap (cosine_doubled f n (slot n w₀ 4)) (sym (add-one i));
    only = only_trans A.only D.only;
  }

  -- ---- all the steps

  pub cosine_steps : (s : ℕ) (w1 w2 w3 w4 : List Float) → w1 ≡ store w₀ 0 (times_m f n (inverse_power_of_two s) (slot n w₀ 0)) → Eighth f n w1 w2 → CosineAfter f n w2 s w3 → w4 ≡ store w3 0 (slot n w3 4) → CosineRun f n s w₀ w4
  unfolding cosine_at scaled
  cosine_steps s w1 w2 w3 w4 e1 E D e4 =
      let all = member (0 ∷ 1 ∷ 2 ∷ 3 ∷ 4 ∷ []) in
      let s1 = step_times n r.order f (inverse_power_of_two s) 0 0 (start all n r) e1 refl refl refl in
      let o3 = only_trans s1.only (only_trans E.only (only_more (member_among all (1 ∷ 4 ∷ []) refl) D.only)) in
      let r3 : Room n w3 = record { order = r.order; space = rw o3.long r.space } in
      let s4 = step_copy n r.order 4 0 (start all n r3) e4 refl refl refl in
      record {
        result = held_at 0 n s4 refl ∙ D.cosine ∙ (λ i. cosine_doubled f n ((E.cosine ∙ ap (cosine_to8 f n) (held_at 0 n s1 refl)) i) s);
        only = only_trans o3 s4.only;
      }

  pub sine_steps : (s : ℕ) (w1 w2 w3 : List Float) → w1 ≡ store w₀ 0 (times_m f n (inverse_power_of_two s) (slot n w₀ 0)) → BothSeries f n w1 w2 → BothAfter f n w2 s w3 → SineRun f n s w₀ w3
  unfolding sine_at scaled
  sine_steps s w1 w2 w3 e1 B D =
      let all = member (0 ∷ 1 ∷ 2 ∷ 3 ∷ 4 ∷ 5 ∷ []) in
      let s1 = step_times n r.order f (inverse_power_of_two s) 0 0 (start all n r) e1 refl refl refl in
      record {
        result = D.sine ∙ (λ i. sine_doubled f n ((B.sine ∙ ap (sine_to7 f n) (held_at 0 n s1 refl)) i) ((B.cosine ∙ ap (cosine_beside f n) (held_at 0 n s1 refl)) i) s);
        only = only_trans s1.only (only_trans B.only (only_more (member_among all (0 ∷ 1 ∷ 4 ∷ []) refl) D.only));
      }

-- ---- a refusal is that of the norm

pub cosine_late : (f : Format) (n : ℕ) (a : List Float) → Late (cos_m f n a)
unfolding cos_m trigonometric_halvings
cosine_late f n a = halvings_late (add f (norm1 f n a) one) (λ s. cosine_at f n s a)

pub sine_late : (f : Format) (n : ℕ) (a : List Float) → Late (sin_m f n a)
unfolding sin_m trigonometric_halvings
sine_late f n a = halvings_late (add f (norm1 f n a) one) (λ s. sine_at f n s a)

-- ---- what the questions accept has the shape of a call

pub shaped : (call : Call) (q : Question) → found q ≡ asked of_cosm call → q ≡ Ok tt → Shaped call
shaped call q h e = (accepted without_exponent anywhere orders_from_two call q h e).shape
