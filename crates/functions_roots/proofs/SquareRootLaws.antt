-- Laws of a pass of Denman and Beavers' iteration in a workspace, and of the square root by its passes. Assumes nothing.
use Rattle.std.specs.Prelude.{Ok}
use Prim.Native.Nat.{ℕ}
use native.Mathlib.Omega.{arith}
use mathlib.Core.Path.{◌≡◌, refl, sym, ap, ◌∙◌}
use mathlib.Core.Bool.{true, false}
use mathlib.Core.List.{List, [], ◌∷◌}
use mathlib.Core.Option.{Option, none, some}
use lib.ListN.{set}
use lib.Ieee.{Float, Format, lt}
use borrow.Author.Tests.{ne_eqb}
use Rattle.arithmetic_floats.specs.Root.{sqrt_of}
use Rattle.arithmetic_matrices.specs.Matrix.{item, part, put, tab}
use Rattle.arithmetic_matrices.specs.Product.{mean_m, identity_m}
use Rattle.arithmetic_matrices.specs.Norm.{norm_of_difference}
use Rattle.arithmetic_matrices.specs.Workspace.{Room, slot, store, member, Only}
use Rattle.arithmetic_questions.specs.Result.{Result, done, refused, ◌>>=◌, outcome, exit}
use Rattle.arithmetic_questions.specs.Kernels.{Replaced}
use Rattle.arithmetic_questions.specs.Answers.{Outcome, reported}
use Rattle.arithmetic_questions.specs.Reports.{nothing, factored, beside}
use Rattle.arithmetic_questions.specs.declared.answer.Report.{Report}
use Rattle.arithmetic_matrices.proofs.Slots.{only_trans, only_more, only_store, slot_store}
use Rattle.arithmetic_matrices.proofs.States.{start, step_mean, step_copy, step_call, step_identity, held_at, member_among}
use Rattle.lu_factoring.specs.Pivots.{smallest_pivot}
use Rattle.lu_factoring.specs.Solve.{division, inverse, where_factored}
use Rattle.functions_definitions.specs.Iterate.{after, verdict, ended}
use Rattle.functions_definitions.specs.Roots.{root_tolerance, pass_limit, Pair, denman_beavers_next, denman_beavers_step, denman_beavers, square_root}
use Rattle.functions_definitions.specs.Reports.{lu_report, iteration_report, pair_report, root_report}
use Rattle.functions_roots.specs.Kernels.{as_step, tested, answered, OnePass, Passes, SlotQuotient, pair_in, Means, SecondInverse}
use Rattle.functions_roots.specs.declared.pass.Pass.{Pass}
use Rattle.functions_roots.specs.declared.pass.Pass.TheVariants.{Failed}
use Rattle.lu_factoring.specs.Lu.{LuOutcome, singular}
use Rattle.functions_roots.proofs.PassLaws.{step_tested, answers_ended, fails_ended}

-- the slots that a pass changes, and those that it changes once z is inverted
abbrev pub used : List ℕ
used = 0 ∷ 1 ∷ 2 ∷ 3 ∷ 4 ∷ 5 ∷ []

abbrev later : List ℕ
later = 0 ∷ 1 ∷ 2 ∷ 4 ∷ 5 ∷ []

module _ (f : Format) (n : ℕ) (w₀ : List Float) (r : Room n w₀) where
  pub means_steps : (w1 w2 w3 w4 : List Float) (d : Float) (p : Pass) → w1 ≡ store w₀ 2 (mean_m f n (slot n w₀ 0) (slot n w₀ 3)) → w2 ≡ store w1 5 (mean_m f n (slot n w1 1) (slot n w1 4))
      → d ≡ norm_of_difference f n (slot n w2 0) (slot n w2 2) → w3 ≡ store w2 0 (slot n w2 2) → w4 ≡ store w3 1 (slot n w3 5) → p ≡ tested (lt d (root_tolerance f)) → Means f n p w₀ w4
  unfolding denman_beavers_next
  means_steps w1 w2 w3 w4 d p e1 e2 ed e3 e4 ep =
      let y = mean_m f n (slot n w₀ 0) (slot n w₀ 3) in
      let q : Pair = record { y = y; z = mean_m f n (slot n w₀ 1) (slot n w₀ 4) } in
      let s1 = step_mean n r.order f 0 3 2 (start (member (0 ∷ 1 ∷ 2 ∷ 5 ∷ [])) n r) e1 refl refl refl refl in
      let s2 = step_mean n r.order f 1 4 5 s1 e2 refl refl refl refl in
      let s3 = step_copy n r.order 2 0 s2 e3 refl refl refl in
      let s4 = step_copy n r.order 5 1 s3 e4 refl refl refl in
      let ed' : d ≡ norm_of_difference f n (slot n w₀ 0) y = ed ∙ (λ i. norm_of_difference f n (held_at 0 n s2 refl i) (held_at 2 n s2 refl i)) in
      record {
        step =
            (λ i. as_step (ep i) (record { y = held_at 0 n s4 refl i; z = held_at 1 n s4 refl i }))
            ∙ step_tested (lt d (root_tolerance f)) q
            ∙ ap (λ (c : Float). verdict (lt c (root_tolerance f)) q) ed';
        only = s4.only;
      }

  -- 1 / y, and the means; or y is refused
  module _ (w1 w2 w3 : List Float) (o : LuOutcome) (e1 : w1 ≡ store w₀ 2 (slot n w₀ 0)) (e2 : w2 ≡ store w1 4 (identity_m n)) (Q : SlotQuotient f n 4 o w2 w3) where
    second_solved : (pair_in n w3 ≡ pair_in n w₀) × (slot n w3 3 ≡ slot n w₀ 3) × (where_factored o (slot n w3 4) ≡ inverse f n (slot n w₀ 0)) × Only (member later) w₀ w3 × (slot n w2 2 ≡ slot n w₀ 0)
    unfolding inverse
    second_solved =
        let s1 = step_copy n r.order 0 2 (start (member later) n r) e1 refl refl refl in
        let s2 = step_identity n r.order 4 s1 e2 refl refl in
        let s3 = step_call (2 ∷ 4 ∷ []) s2 Q.only (member_among (member later) (2 ∷ 4 ∷ []) refl) in
        (λ i. record { y = held_at 0 n s3 refl i; z = held_at 1 n s3 refl i }, held_at 3 n s3 refl, Q.result ∙ (λ i. division f n (held_at 2 n s2 refl i) (held_at 4 n s2 refl i)), s3.only, held_at 2 n s2 refl)

    pub second_passed : (w4 : List Float) (p : Pass) → o ≡ Ok tt → Means f n p w3 w4 → SecondInverse f n p w₀ w4
    second_passed w4 p eo M =
        let q : some (slot n w3 4) ≡ inverse f n (slot n w₀ 0) = ap (λ (z : LuOutcome). where_factored z (slot n w3 4)) (sym eo) ∙ second_solved.2 in
        record {
          step = M.step ∙ (λ i. denman_beavers_next f n (second_solved.0 i) (some (second_solved.1 i)) (q i));
          only = only_trans second_solved.3 (only_more (member_among (member later) (0 ∷ 1 ∷ 2 ∷ 5 ∷ []) refl) M.only);
        }

    pub second_failed : (k : ℕ) → o ≡ singular k → SecondInverse f n Failed w₀ w3
    unfolding denman_beavers_next
    second_failed k eo =
        let q : none ≡ inverse f n (slot n w₀ 0) = ap (λ (z : LuOutcome). where_factored z (slot n w3 4)) (sym eo) ∙ second_solved.2 in
        record { step = ap (denman_beavers_next f n (pair_in n w₀) (some (slot n w₀ 3))) q; only = second_solved.3 }

    -- it factors y
    pub second_reported : (v : Float) (ρ : Report) → v ≡ smallest_pivot f n (slot n w2 2) → ρ ≡ factored v → ρ ≡ lu_report f n (slot n w₀ 0)
    unfolding lu_report
    second_reported v ρ ev e = e ∙ ap factored (ev ∙ ap (smallest_pivot f n) second_solved.4)

  -- 1 / z, and the rest of the pass; or z is refused
  module _ (w1 w2 w3 : List Float) (o : LuOutcome) (e1 : w1 ≡ store w₀ 2 (slot n w₀ 1)) (e2 : w2 ≡ store w1 3 (identity_m n)) (Q : SlotQuotient f n 3 o w2 w3) where
    first_solved : (pair_in n w3 ≡ pair_in n w₀) × (where_factored o (slot n w3 3) ≡ inverse f n (slot n w₀ 1)) × Only (member used) w₀ w3 × (slot n w2 2 ≡ slot n w₀ 1)
    unfolding inverse
    first_solved =
        let s1 = step_copy n r.order 1 2 (start (member used) n r) e1 refl refl refl in
        let s2 = step_identity n r.order 3 s1 e2 refl refl in
        let s3 = step_call (2 ∷ 3 ∷ []) s2 Q.only (member_among (member used) (2 ∷ 3 ∷ []) refl) in
        (λ i. record { y = held_at 0 n s3 refl i; z = held_at 1 n s3 refl i }, Q.result ∙ (λ i. division f n (held_at 2 n s2 refl i) (held_at 3 n s2 refl i)), s3.only, held_at 2 n s2 refl)

    pub root_passed : (w4 : List Float) (p : Pass) → o ≡ Ok tt → SecondInverse f n p w3 w4 → OnePass (denman_beavers_step f n) (pair_in n) used p w₀ w4
    unfolding denman_beavers_step
    root_passed w4 p eo M =
        let q : some (slot n w3 3) ≡ inverse f n (slot n w₀ 1) = ap (λ (z : LuOutcome). where_factored z (slot n w3 3)) (sym eo) ∙ first_solved.1 in
        record {
          step = M.step ∙ (λ i. denman_beavers_next f n (first_solved.0 i) (q i) (inverse f n (first_solved.0 i).y));
          only = only_trans first_solved.2 (only_more (member_among (member used) later refl) M.only);
        }

    pub root_failed : (k : ℕ) → o ≡ singular k → OnePass (denman_beavers_step f n) (pair_in n) used Failed w₀ w3
    unfolding denman_beavers_step denman_beavers_next
    root_failed k eo =
        let q : none ≡ inverse f n (slot n w₀ 1) = ap (λ (z : LuOutcome). where_factored z (slot n w3 3)) (sym eo) ∙ first_solved.1 in
        record { step = ap (λ (v : Option (List Float)). denman_beavers_next f n (pair_in n w₀) v (inverse f n (slot n w₀ 0))) q; only = first_solved.2 }

    -- it factors z and then y
    pub pair_reported : (v : Float) (ρ₁ ρ₂ ρ : Report) → v ≡ smallest_pivot f n (slot n w2 2) → ρ₁ ≡ factored v → ρ₂ ≡ lu_report f n (slot n w3 0) → ρ ≡ beside ρ₁ ρ₂ → ρ ≡ pair_report f n (pair_in n w₀)
    unfolding pair_report lu_report
    pair_reported v ρ₁ ρ₂ ρ ev a b e =
        let z = a ∙ ap factored (ev ∙ ap (smallest_pivot f n) first_solved.3) in
        let y = b ∙ ap (λ (p : Pair). lu_report f n p.y) first_solved.0 in
        e ∙ (λ i. beside (z i) (y i))

  -- ---- the square root: at order 1, and by the passes

  number : (v : Float) (w1 : List Float) (o : Outcome) → v ≡ sqrt_of f (item w₀ 0) → w1 ≡ set w₀ 0 v → reported o ≡ done 0 tt → Replaced used 1 (square_root f 1 (slot 1 w₀ 0)) o w₀ w1
  unfolding square_root slot part tab store put outcome exit
  number v w1 o ev ew eo = record {
    outcome = eo;
    result = ap (λ (w : List Float). slot 1 w 0) ew ∙ slot_store 1 w₀ 0 (v ∷ []) refl (omega (arith, r.space)) ∙ ap (λ (x : Float). x ∷ []) ev;
    only = rw ew (only_store (member used) w₀ 0 (v ∷ []) refl (omega arith));
  }

  pub root_number : (v : Float) (w1 : List Float) (o : Outcome) → n ≡ 1 → v ≡ sqrt_of f (item w₀ 0) → w1 ≡ set w₀ 0 v → reported o ≡ done 0 tt → Replaced used n (square_root f n (slot n w₀ 0)) o w₀ w1
  root_number v w1 o e ev ew eo = rw e (number v w1 o ev ew eo)

  pub number_reported : (ρ : Report) → n ≡ 1 → ρ ≡ nothing → ρ ≡ root_report f n (slot n w₀ 0)
  unfolding root_report
  number_reported ρ e h = rw e h

  module _ (w1 w2 : List Float) (p : Pass) (two : n ≡ 1 → ⊥) (e1 : w1 ≡ store w₀ 1 (identity_m n)) (P : Passes (λ _. denman_beavers_step f n) pass_limit (pair_in n) used p w1 w2) where
    -- the states are those of the definition
    states : after (λ _. denman_beavers_step f n) (pair_in n w1) ≡ denman_beavers f n (slot n w₀ 0)
    unfolding denman_beavers
    states =
        let s1 = step_identity n r.order 1 (start (member used) n r) e1 refl refl in
        λ i. after (λ _. denman_beavers_step f n) (record { y = held_at 0 n s1 refl i; z = held_at 1 n s1 refl i })

    passes : as_step p (pair_in n w2) ≡ denman_beavers f n (slot n w₀ 0) pass_limit
    passes = P.step ∙ (λ i. states i pass_limit)

    changed : Only (member used) w₀ w2
    changed = only_trans (step_identity n r.order 1 (start (member used) n r) e1 refl refl).only P.only

    -- what the passes end with is the definition's
    ended_as : (q : Result Pair) → q ≡ ended (as_step p (pair_in n w2)) → (q >>= λ v. done 0 v.y) ≡ square_root f n (slot n w₀ 0)
    unfolding square_root
    ended_as q e = rw (ne_eqb n 1 two) (ap (λ (z : Result Pair). z >>= λ v. done 0 v.y) (e ∙ ap ended passes))

    pub root_answers : answered p ≡ true → Replaced used n (square_root f n (slot n w₀ 0)) (Ok 0) w₀ w2
    unfolding outcome exit ◌>>=◌
    root_answers e =
        let x : done 0 (slot n w2 0) ≡ square_root f n (slot n w₀ 0) = ended_as (done 0 (pair_in n w2)) (answers_ended p (pair_in n w2) e) in
        record { outcome = ap outcome x; result = ap (λ (z : Result (List Float)). exit (λ v. v) z (slot n w2 0)) x; only = changed }

    pub root_refused : (o : Outcome) → answered p ≡ false → reported o ≡ refused 13 0 0 → Replaced used n (square_root f n (slot n w₀ 0)) o w₀ w2
    unfolding outcome exit ◌>>=◌
    root_refused o e eo =
        let x : refused 13 0 0 ≡ square_root f n (slot n w₀ 0) = ended_as (refused 13 0 0) (fails_ended p (pair_in n w2) e) in
        record { outcome = eo ∙ ap outcome x; result = ap (λ (z : Result (List Float)). exit (λ v. v) z (slot n w2 0)) x; only = changed }

    pub root_reported : (ρ : Report) → ρ ≡ iteration_report (pair_report f n) (after (λ _. denman_beavers_step f n) (pair_in n w1)) pass_limit → ρ ≡ root_report f n (slot n w₀ 0)
    unfolding root_report
    root_reported ρ h = rw (ne_eqb n 1 two) (h ∙ (λ i. iteration_report (pair_report f n) (states i) pass_limit))
