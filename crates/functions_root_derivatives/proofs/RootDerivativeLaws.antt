-- Laws of the Sylvester system in a workspace, and of the derivatives of the square root. `second` of S is T. Assumes nothing.
use Rattle.std.specs.Prelude.{Ok, Err}
use Prim.Native.Nat.{ℕ, ◌+◌, ◌-◌, ◌*◌, ◌≤◌, ◌<◌}
use native.Mathlib.Nat.{mul-le-mul, mul-one}
use native.Mathlib.Omega.{arith}
use mathlib.Core.Path.{◌≡◌, refl, sym, ap, ◌∙◌}
use mathlib.Core.Bool.{Bool, true, false}
use mathlib.Core.List.{List, [], ◌∷◌}
use mathlib.Core.Logic.{inl}
use mathlib.Core.Option.{Option, some}
use borrow.Author.Tests.{ne_eqb}
use borrow.Rule.Slice.PartMut.{put_mid}
use lib.ListN.{length, set}
use lib.Ieee.{Float, Format, nan}
use Rattle.arithmetic_matrices.specs.Matrix.{item, at, part, put, tab, column}
use Rattle.arithmetic_matrices.specs.Product.{transpose_m}
use Rattle.arithmetic_matrices.specs.Workspace.{Room, slot, store, member, Only}
use Rattle.arithmetic_questions.specs.Result.{Result, refused, done, ◌>>=◌, outcome, exit}
use Rattle.arithmetic_questions.specs.Outputs.{Both}
use Rattle.arithmetic_questions.specs.Kernels.{Replaced, ReplacedBoth}
use Rattle.arithmetic_questions.specs.Answers.{Outcome, numbered, reported}
use Rattle.arithmetic_questions.specs.Reports.{nothing, factored, beside, report_at}
use Rattle.arithmetic_questions.specs.declared.answer.Refusal.{Refusal}
use Rattle.arithmetic_questions.specs.declared.answer.Report.{Report}
use Rattle.arithmetic_questions.proofs.ReportLaws.{report_of_lem}
use Rattle.arithmetic_questions.proofs.BothLaws.{call_done, both_refused, both_follows}
use Rattle.arithmetic_matrices.proofs.MatrixLaws.{square_le, tab_is, length-grid, grid_is}
use Rattle.arithmetic_matrices.proofs.PartLaws.{length_part, length-put, part_put, part_put_apart, returned}
use Rattle.arithmetic_matrices.proofs.Slots.{only_trans, only_more, only_run, only_store, slot_only, slot_store}
use Rattle.arithmetic_matrices.proofs.States.{Held, start, step_store, step_transpose, step_call, held_at, member_among}
use Rattle.lu_factoring.specs.Lu.{LuOutcome, singular, lu_outcome, lu_factors, lu_pivots, lu_at}
use Rattle.lu_factoring.specs.Pivots.{smallest_pivot}
use Rattle.lu_factoring.specs.Solve.{permuted, forward, solved, solved_matrix, stand_in, where_factored}
use Rattle.lu_factoring.specs.Kernels.{divided}
use Rattle.lu_factoring.proofs.LuLaws.{length-lu_at}
use Rattle.lu_factoring.proofs.SolveLaws.{length-permuted, length-forward, length_back}
use Rattle.lu_factoring.proofs.DivisionLaws.{length-solved_matrix}
use Rattle.functions_definitions.specs.Roots.{or_not_converged, square_root}
use Rattle.functions_definitions.specs.Derivatives.{sylvester_matrix, column_division, sylvester, scalar_derivative, root_derivative, root_with_derivative}
use Rattle.functions_definitions.specs.Reports.{lu_report, root_report, root_derivative_report, root_with_derivative_report}
use Rattle.functions_definitions.proofs.GatheredLaws.{followed_as}
use Rattle.functions_root_derivatives.specs.Kernels.{system_slots, SystemSolved, where_accepted, derived_slots, Derived}

-- ---- the system is written

length-sylvester_matrix : (f : Format) (n : ℕ) (s t : List Float) → length (sylvester_matrix f n s t) ≡ n * n * (n * n)
unfolding sylvester_matrix
length-sylvester_matrix f n s t = length-grid (n * n) (n * n) _

pub system_filled : (f : Format) (n : ℕ) (second : List Float → List Float) (w s m : List Float) → n * n ≤ 64 → 8192 ≤ length w → s ≡ part w 0 (n * n) → m ≡ sylvester_matrix f n s (second s)
    → put_mid 2048 (2048 + n * n * (n * n) - 2048) w m ≡ store w 8 (sylvester_matrix f n (slot n w 0) (second (slot n w 0)))
unfolding store slot
system_filled f n second w s m h room es em =
    returned w m 2048 (n * n * (n * n)) (ap length em ∙ length-sylvester_matrix f n s (second s)) (omega (arith, mul-le-mul h h))
    ∙ ap (put w 2048) (em ∙ ap (λ (v : List Float). sylvester_matrix f n v (second v)) es)

-- ---- one right-hand column is its own matrix

module _ (f : Format) (n : ℕ) (F : List Float) (ps : List ℕ) (b : List Float) (long : length b ≡ n) where
  length-solved : length (solved f n F ps b) ≡ n
  unfolding solved
  length-solved = length_back f n F (forward f n F (permuted n ps b n) n) n (length-forward f n F (permuted n ps b n) n (length-permuted n ps b n long))

  alone : column n 1 b 0 ≡ b
  unfolding column at
  alone = sym (tab_is nan n (λ i. at 1 b i 0) b long (λ i h. ap (item b) (let e : i ≡ i * 1 + 0 = omega arith in e)))

  solved_column : solved_matrix f n 1 F ps b ≡ solved f n F ps b
  unfolding solved_matrix at
  solved_column =
      sym (grid_is n 1 (λ r c. item (solved f n F ps (column n 1 b c)) r) (solved f n F ps b) (length-solved ∙ sym (mul-one n)) (λ i j hi hj. first i j hj))
    where
      first : (i j : ℕ) → j < 1 → item (solved f n F ps b) (i * 1 + j) ≡ item (solved f n F ps (column n 1 b j)) i
      first i j h =
          let z : j ≡ 0 = omega arith in
          let e : i * 1 + j ≡ i = omega arith in
          ap (item (solved f n F ps b)) e ∙ sym (ap (λ (k : ℕ). item (solved f n F ps (column n 1 b k)) i) z ∙ ap (λ (x : List Float). item (solved f n F ps x) i) alone)

-- ---- the system is solved

module _ (f : Format) (n : ℕ) (w : List Float) (h : n * n ≤ 64) (room : 8192 ≤ length w) where
  K : List Float
  K = part w 2048 (n * n * (n * n))

  X : List Float
  X = solved_matrix f (n * n) 1 (lu_factors f (n * n) K) (lu_pivots f (n * n) K) (part w 1792 (n * n * 1))

  long_factors : (k : ℕ) → length (lu_at f (n * n) K k) ≡ n * n * (n * n)
  unfolding K
  long_factors k = length-lu_at f (n * n) K k (length_part w 2048 (n * n * (n * n)))

  -- slot 7 holds the solution, or what it held where LU refuses
  column_solved : (o : LuOutcome) → slot n (divided f (n * n) 1 2048 1792 w o) 7 ≡ stand_in o X (slot n w 7)
  unfolding divided slot X K
  column_solved (Ok _) =
      part_put (put w 2048 (lu_factors f (n * n) K)) 1792 X (n * n) (length-solved_matrix f (n * n) 1 _ _ _ ∙ mul-one (n * n)) (omega (arith, length-put w 2048 (lu_factors f (n * n) K)))
  column_solved (Err bad) = part_put_apart w 2048 (n * n * (n * n)) (lu_at f (n * n) K bad.column) 1792 (n * n) (inl (omega arith)) (omega (arith, long_factors bad.column))

  column_only : (o : LuOutcome) → Only (member system_slots) w (divided f (n * n) 1 2048 1792 w o)
  unfolding divided store X K
  column_only (Ok _) =
      only_trans (only_run (member system_slots) w 8 16 (lu_factors f (n * n) K) refl (unfold lu_factors in omega (arith, long_factors (n * n), mul-le-mul h h)))
      (only_store (member system_slots) (put w 2048 (lu_factors f (n * n) K)) 7 X refl (omega (arith, length-solved_matrix f (n * n) 1 (lu_factors f (n * n) K) (lu_pivots f (n * n) K) (part w 1792 (n * n * 1)), mul-one (n * n))))
  column_only (Err bad) = only_run (member system_slots) w 8 16 (lu_at f (n * n) K bad.column) refl (omega (arith, long_factors bad.column, mul-le-mul h h))

  pub system_solved : (w' : List Float) (o : LuOutcome) → o ≡ lu_outcome f (n * n) (part w 2048 (n * n * (n * n))) → w' ≡ divided f (n * n) 1 2048 1792 w o → SystemSolved f n o w w'
  unfolding column_division slot K X
  system_solved w' o eo ew = record {
    result = go o (ap (λ (v : List Float). slot n v 7) ew ∙ column_solved o) ∙ (λ i. where_factored (eo i) (same i));
    only = rw ew (column_only o);
  }
    where
      same : X ≡ solved f (n * n) (lu_factors f (n * n) K) (lu_pivots f (n * n) K) (slot n w 7)
      same =
          ap (λ (k : ℕ). solved_matrix f (n * n) 1 (lu_factors f (n * n) K) (lu_pivots f (n * n) K) (part w 1792 k)) (mul-one (n * n))
          ∙ solved_column f (n * n) (lu_factors f (n * n) K) (lu_pivots f (n * n) K) (part w 1792 (n * n)) (length_part w 1792 (n * n))

      go : (o : LuOutcome) → slot n w' 7 ≡ stand_in o X (slot n w 7) → where_factored o (slot n w' 7) ≡ where_factored o X
      go (Ok _) q = ap some q
      go (Err bad) q = refl

-- ---- the derivative

module _ (f : Format) (n : ℕ) (second : List Float → List Float) (w₀ : List Float) (r : Room n w₀) where
  module _ (w1 w2 w3 : List Float) (o : LuOutcome) (h : n * n ≤ 64) (e1 : w1 ≡ store w₀ 8 (sylvester_matrix f n (slot n w₀ 0) (second (slot n w₀ 0)))) (e2 : w2 ≡ store w1 7 (transpose_m n (slot n w1 6))) (Q : SystemSolved f n o w2 w3) where
    matrix : Held
    matrix = record { order = n * n; span = 16; entries = sylvester_matrix f n (slot n w₀ 0) (second (slot n w₀ 0)) }

    -- what the definition makes of LU's answer
    answered : Option (List Float) → Result (List Float)
    answered z = or_not_converged z >>= λ x. done 0 (transpose_m n x)

    solution : (answered (where_factored o (slot n w3 7)) ≡ sylvester f n (slot n w₀ 0) (second (slot n w₀ 0)) (slot n w₀ 6)) × Only (member derived_slots) w₀ w3 × (slot (n * n) w2 8 ≡ sylvester_matrix f n (slot n w₀ 0) (second (slot n w₀ 0)))
    unfolding sylvester answered matrix
    solution =
        let s1 = step_store 8 (sylvester_matrix f n (slot n w₀ 0) (second (slot n w₀ 0))) matrix (start (member derived_slots) n r) e1 refl (length-sylvester_matrix f n (slot n w₀ 0) (second (slot n w₀ 0))) (omega (arith, mul-le-mul h h)) refl refl in
        let s2 = step_transpose n r.order 6 7 s1 e2 refl refl refl in
        let s3 = step_call system_slots s2 Q.only (member_among (member derived_slots) system_slots refl) in
        (ap (λ (z : Option (List Float)). or_not_converged z >>= λ x. done 0 (transpose_m n x)) (Q.result ∙ (λ i. column_division f (n * n) (held_at 8 (n * n) s2 refl i) (held_at 7 n s2 refl i))), s3.only, held_at 8 (n * n) s2 refl)

    pub sylvester_solved : (w4 : List Float) → o ≡ Ok tt → w4 ≡ store w3 1 (transpose_m n (slot n w3 7)) → Derived n (sylvester f n (slot n w₀ 0) (second (slot n w₀ 0)) (slot n w₀ 6)) true w₀ w4
    unfolding answered ◌>>=◌
    sylvester_solved w4 eo e4 =
        let r3 : Room n w3 = record { order = r.order; space = rw solution.1.long r.space } in
        let s4 = step_transpose n r.order 7 1 (start (member derived_slots) n r3) e4 refl refl refl in
        record {
          result = ap (done 0) (held_at 1 n s4 refl) ∙ ap (λ (z : LuOutcome). answered (where_factored z (slot n w3 7))) (sym eo) ∙ solution.0;
          only = only_trans solution.1 s4.only;
        }

    -- one factoring, of the system's matrix
    pub sylvester_reported : (v : Float) (ρ : Report) → v ≡ smallest_pivot f (n * n) (slot (n * n) w2 8) → ρ ≡ factored v → ρ ≡ lu_report f (n * n) (sylvester_matrix f n (slot n w₀ 0) (second (slot n w₀ 0)))
    unfolding lu_report
    sylvester_reported v ρ ev e = e ∙ ap factored (ev ∙ ap (smallest_pivot f (n * n)) solution.2)

    pub sylvester_refused : (k : ℕ) → o ≡ singular k → Derived n (sylvester f n (slot n w₀ 0) (second (slot n w₀ 0)) (slot n w₀ 6)) false w₀ w3
    unfolding answered ◌>>=◌
    sylvester_refused k eo = record { result = ap (λ (z : LuOutcome). answered (where_factored z (slot n w3 7))) (sym eo) ∙ solution.0; only = solution.1 }

  -- at order 1, and above

  number : (v : Float) (w1 : List Float) → v ≡ scalar_derivative f (item w₀ 0) (item w₀ 1536) → w1 ≡ set w₀ 256 v → Derived 1 (root_derivative f 1 (slot 1 w₀ 0) (second (slot 1 w₀ 0)) (slot 1 w₀ 6)) true w₀ w1
  unfolding root_derivative slot part tab store put
  number v w1 ev ew = record {
    result = ap (done 0) (ap (λ (w : List Float). slot 1 w 1) ew ∙ slot_store 1 w₀ 1 (v ∷ []) refl (omega (arith, r.space)) ∙ ap (λ (x : Float). x ∷ []) ev);
    only = rw ew (only_store (member derived_slots) w₀ 1 (v ∷ []) refl (omega arith));
  }

  pub derived_number : (v : Float) (w1 : List Float) → n ≡ 1 → v ≡ scalar_derivative f (item w₀ 0) (item w₀ 1536) → w1 ≡ set w₀ 256 v → Derived n (root_derivative f n (slot n w₀ 0) (second (slot n w₀ 0)) (slot n w₀ 6)) true w₀ w1
  derived_number v w1 e ev ew = rw e (number v w1 ev ew)

  pub derived_above : (b : Bool) (w1 : List Float) → (n ≡ 1 → ⊥) → Derived n (sylvester f n (slot n w₀ 0) (second (slot n w₀ 0)) (slot n w₀ 6)) b w₀ w1 → Derived n (root_derivative f n (slot n w₀ 0) (second (slot n w₀ 0)) (slot n w₀ 6)) b w₀ w1
  unfolding root_derivative
  derived_above b w1 h D = rw (ne_eqb n 1 h) D

  -- at order 1 nothing is factored
  pub derived_none : (ρ : Report) → n ≡ 1 → ρ ≡ nothing → ρ ≡ root_derivative_report f n (slot n w₀ 0) (second (slot n w₀ 0))
  unfolding root_derivative_report
  derived_none ρ e h = rw e h

  pub derived_system : (ρ : Report) → (n ≡ 1 → ⊥) → ρ ≡ lu_report f (n * n) (sylvester_matrix f n (slot n w₀ 0) (second (slot n w₀ 0))) → ρ ≡ root_derivative_report f n (slot n w₀ 0) (second (slot n w₀ 0))
  unfolding root_derivative_report
  derived_system ρ e h = rw (ne_eqb n 1 e) h

-- ---- the root and its derivative

abbrev root_slots : List ℕ
root_slots = 0 ∷ 1 ∷ 2 ∷ 3 ∷ 4 ∷ 5 ∷ []

abbrev pub both_slots : List ℕ
both_slots = 0 ∷ 2 ∷ 3 ∷ 4 ∷ 5 ∷ derived_slots

module _ (f : Format) (n : ℕ) (second : List Float → List Float) (w₀ : List Float) (r : Room n w₀) (w1 : List Float) (o : Outcome) (R : Replaced root_slots n (square_root f n (slot n w₀ 0)) o w₀ w1) where
  wide : Only (member both_slots) w₀ w1
  wide = only_more (member_among (member both_slots) root_slots refl) R.only

  pub root_refused_both : (p : Outcome) (y : Refusal) → o ≡ Err y → reported p ≡ numbered y → ReplacedBoth both_slots n (root_with_derivative f n second (slot n w₀ 0) (slot n w₀ 6)) p w₀ w1
  unfolding root_with_derivative
  root_refused_both p y e ep = both_refused (square_root f n (slot n w₀ 0)) _ both_slots n o p y w₀ w1 R.outcome e ep wide

  module _ (s : ℕ) (b : Bool) (w2 : List Float) (eo : o ≡ Ok s) (D : Derived n (root_derivative f n (slot n w1 0) (second (slot n w1 0)) (slot n w1 6)) b w1 w2) where
    -- what follows the root
    follows : List Float → Result Both
    follows v = root_derivative f n v (second v) (slot n w₀ 6) >>= λ x. done 0 (record { value = v; derivative = x })

    few : n * n ≤ 256 * 1
    few = omega (arith, square_le n r.order)

    -- the derivative is the definition's
    made : where_accepted b (slot n w2 1) ≡ root_derivative f n (slot n w1 0) (second (slot n w1 0)) (slot n w₀ 6)
    made = D.result ∙ ap (root_derivative f n (slot n w1 0) (second (slot n w1 0))) (slot_only n (member root_slots) w₀ w1 6 1 R.only few refl)

    kept : slot n w2 0 ≡ slot n w1 0
    kept = slot_only n (member derived_slots) w1 w2 0 1 D.only few refl

    narrow : Only (member both_slots) w1 w2
    narrow = only_more (member_among (member both_slots) derived_slots refl) D.only

    after_root : (p : Outcome) → ReplacedBoth both_slots n (follows (slot n w1 0)) p w1 w2 → ReplacedBoth both_slots n (root_with_derivative f n second (slot n w₀ 0) (slot n w₀ 6)) p w₀ w2
    unfolding root_with_derivative follows
    after_root p S = both_follows (square_root f n (slot n w₀ 0)) follows (slot n w1 0) s n both_slots p w₀ w1 w2 (call_done (square_root f n (slot n w₀ 0)) o (slot n w1 0) s R.outcome R.result eo) wide S

    pub derivative_done : b ≡ true → ReplacedBoth both_slots n (root_with_derivative f n second (slot n w₀ 0) (slot n w₀ 6)) (Ok 0) w₀ w2
    unfolding follows ◌>>=◌ outcome exit
    derivative_done e =
        let x : root_derivative f n (slot n w1 0) (second (slot n w1 0)) (slot n w₀ 6) ≡ done 0 (slot n w2 1) = sym (ap (λ (z : Bool). where_accepted z (slot n w2 1)) (sym e) ∙ made) in
        after_root (Ok 0) (rw x (record { outcome = refl; value = kept; derivative = refl; only = narrow }))

    pub derivative_refused : (p : Outcome) → b ≡ false → reported p ≡ refused 13 0 0 → ReplacedBoth both_slots n (root_with_derivative f n second (slot n w₀ 0) (slot n w₀ 6)) p w₀ w2
    unfolding follows ◌>>=◌ outcome exit
    derivative_refused p e ep =
        let x : root_derivative f n (slot n w1 0) (second (slot n w1 0)) (slot n w₀ 6) ≡ refused 13 0 0 = sym (ap (λ (z : Bool). where_accepted z (slot n w2 1)) (sym e) ∙ made) in
        after_root p (rw x (record { outcome = ep; value = refl; derivative = refl; only = narrow }))

    -- the root reports ρ₁ and the derivative ρ₂
    pub derivative_reported : (ρ₁ ρ₂ ρ : Report) → ρ₁ ≡ report_at (square_root f n (slot n w₀ 0)) (root_report f n (slot n w₀ 0)) → ρ₂ ≡ root_derivative_report f n (slot n w1 0) (second (slot n w1 0)) → ρ ≡ beside ρ₁ ρ₂
        → ρ ≡ root_with_derivative_report f n second (slot n w₀ 0)
    unfolding root_with_derivative_report
    derivative_reported ρ₁ ρ₂ ρ e₁ e₂ e =
        let a = report_of_lem (square_root f n (slot n w₀ 0)) (root_report f n (slot n w₀ 0)) ρ₁ o s eo R.outcome e₁ in
        e ∙ (λ i. beside (a i) (e₂ i))
        ∙ sym (followed_as (square_root f n (slot n w₀ 0)) (root_report f n (slot n w₀ 0)) (λ v. root_derivative_report f n v (second v)) s (slot n w1 0) (sym (ap reported eo) ∙ R.outcome) R.result)
