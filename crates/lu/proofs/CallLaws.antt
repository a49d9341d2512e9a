-- What the public calls of LU leave. Assumes nothing.
use Rattle.std.specs.Prelude.{Ok, Err}
use Prim.Native.Nat.{ℕ, ◌*◌, ◌≤◌}
use native.Mathlib.Omega.{arith}
use mathlib.Core.Path.{◌≡◌, refl, sym, ap, ◌∙◌}
use mathlib.Core.List.{List}
use lib.Dec.{ltb}
use lib.ListN.{length}
use lib.Ieee.{Float, Format}
use Rattle.arithmetic_matrices.specs.Kernels.{patch}
use Rattle.arithmetic_matrices.specs.Matrix.{part, put}
use Rattle.arithmetic_matrices.specs.Workspace.{store, cleared, Only}
use Rattle.arithmetic_questions.specs.Result.{Result, outcome, exit, workspace}
use Rattle.arithmetic_questions.specs.Answers.{Question, Outcome, numbered, reported, found}
use Rattle.arithmetic_questions.specs.Questions.{asked, of_compute}
use Rattle.arithmetic_questions.specs.declared.answer.Refusal.{Refusal}
use Rattle.arithmetic_questions.specs.declared.answer.Report.{Report}
use Rattle.arithmetic_questions.specs.Reports.{factored, report_at}
use Rattle.arithmetic_matrices.proofs.PatchLaws.{patch_all}
use Rattle.arithmetic_matrices.proofs.PartLaws.{part_all, part_put, put-put}
use Rattle.arithmetic_matrices.proofs.Slots.{only_run, cleared_only}
use Rattle.arithmetic_questions.proofs.AnswerLaws.{answer_passed, outcome_no, exit_no, workspace_no}
use Rattle.arithmetic_questions.proofs.ReportLaws.{report_as}
use Rattle.lu_factoring.specs.Lu.{LuOutcome, singular, lu_at, lu_pivot, lu_outcome, lu_factors, lu_pivots}
use Rattle.lu_factoring.specs.Kernels.{columns_done, diagonal_smallest, LuDoneIn}
use Rattle.lu_factoring.specs.Pivots.{smallest_pivot}
use Rattle.lu_factoring.specs.Solve.{stand_in}
use Rattle.lu.specs.Calls.{Factorisation, factorised, compute, compute_call, Computed}
use Rattle.lu.specs.Kernels.{lu_result, FactoredCopy, Computing}
use Rattle.lu_factoring.proofs.LuLaws.{length-lu_at}
use Rattle.lu_factoring.proofs.PivotLaws.{smallest_read}

module _ (f : Format) (n : ℕ) (a w : List Float) (size : length a ≡ n * n) (room : n * n ≤ length w) where
  -- a copy stands where it was stored, and what replaces it replaces what stood there before
  copied : part (store w 0 a) 0 (n * n) ≡ a
  unfolding store
  copied = part_put w 0 a (n * n) size (omega arith)

  replaced : (x : List Float) → length x ≡ n * n → put (store w 0 a) 0 x ≡ put w 0 x
  unfolding store
  replaced x e = put-put w 0 a x (size ∙ sym e) (omega arith)

  -- the copy is factored as the matrix is
  pub factored_copy : (ps : List ℕ) (w1 w2 : List Float) (ps' : List ℕ) (r : LuOutcome) → w1 ≡ store w 0 a → LuDoneIn f n 0 w1 ps w2 ps' r → FactoredCopy f n a w ps w2 ps' r
  factored_copy ps w1 w2 ps' r e d =
      let c : part w1 0 (n * n) ≡ a = ap (λ (l : List Float). part l 0 (n * n)) e ∙ copied in
      record {
        outcome = d.outcome ∙ ap (lu_outcome f n) c;
        factors = d.factors ∙ (λ i. put (e i) 0 (lu_at f n (c i) (columns_done n r))) ∙ replaced (lu_at f n a (columns_done n r)) (length-lu_at f n a (columns_done n r) size);
        pivots = d.pivots ∙ ap (λ (l : List Float). patch 0 (columns_done n r) (lu_pivot f n l) ps) c;
      }

  module _ (rows : List ℕ) (w1 : List Float) (rows1 : List ℕ) (r : LuOutcome) (d : FactoredCopy f n a w rows w1 rows1 r) (few : n * n ≤ 4096) where
    within : Only (λ s. ltb s 32) w w1
    unfolding store
    within =
        let e : length (lu_at f n a (columns_done n r)) ≡ n * n = length-lu_at f n a (columns_done n r) size in
        rw d.factors (only_run (λ s. ltb s 32) w 0 16 (lu_at f n a (columns_done n r)) refl (omega arith))

    -- every column passes: the factors and the pivots are copied out
    pub computing_all : (fs fs' : List Float) (ps ps' : List ℕ) → r ≡ Ok tt → length rows ≡ n → length fs ≡ n * n → fs' ≡ part w1 0 (length fs) → ps' ≡ rows1
        → Computing f n a fs fs' ps ps' w w1 (Ok tt)
    unfolding lu_factors lu_pivots
    computing_all fs fs' ps ps' e l k u v =
        let s : length (lu_at f n a n) ≡ n * n = length-lu_at f n a n size in
        record {
          outcome = sym e ∙ d.outcome;
          factors = u ∙ rw (k, d.factors, e) (part_put w 0 (lu_at f n a n) (n * n) s (omega arith));
          pivots = v ∙ rw (d.pivots, e) (patch_all 0 n (lu_pivot f n a) rows l);
          only = within;
        }

    -- a column does not pass: nothing is copied
    pub computing_none : (fs : List Float) (ps : List ℕ) (k : ℕ) → r ≡ singular k → Computing f n a fs fs ps ps w w1 (singular k)
    computing_none fs ps k e = record { outcome = sym e ∙ d.outcome; factors = refl; pivots = refl; only = within }

-- ---- compute

module _ (f : Format) (rows columns : ℕ) (a : List Float) (fs : List Float) (ps : List ℕ) (w : List Float) (q : Question)
    (out room : ℕ) (h : found q ≡ asked of_compute (compute_call rows columns a ps out room)) (o : Outcome) where
  whole : Result Factorisation
  whole = factorised (lu_outcome f rows a) (record { factors = lu_factors f rows a; pivot_rows = lu_pivots f rows a })

  -- a question refuses: all is as it was lent
  pub compute_refused : (x : Refusal) → q ≡ Err x → reported o ≡ numbered x → Computed (compute f rows columns a ps out room) o fs fs ps ps w w
  unfolding compute whole
  compute_refused x e k =
      let c = compute_call rows columns a ps out room in
      record {
        outcome = k ∙ sym (outcome_no of_compute c whole q h x e);
        factors = sym (exit_no of_compute c whole q h x e (λ (l : Factorisation). l.factors) fs);
        pivots = sym (exit_no of_compute c whole q h x e (λ (l : Factorisation). l.pivot_rows) ps);
        workspace = sym (workspace_no of_compute c whole q h x e w);
      }

  -- none does: LU decides
  pub compute_done : (fs' : List Float) (ps' : List ℕ) (w1 w2 : List Float) (r : LuOutcome) → q ≡ Ok tt → 8192 ≤ length w → Computing f rows a fs fs' ps ps' w w1 r
      → w2 ≡ cleared w1 → reported o ≡ lu_result r → Computed (compute f rows columns a ps out room) o fs fs' ps ps' w w2
  unfolding compute whole outcome exit workspace
  compute_done fs' ps' w1 w2 r e enough d v k =
      let c = compute_call rows columns a ps out room in
      rw (answer_passed of_compute c whole q h e)
      (go (lu_outcome f rows a) (d.factors ∙ ap (λ (z : LuOutcome). stand_in z (lu_factors f rows a) fs) d.outcome) (d.pivots ∙ ap (λ (z : LuOutcome). stand_in z (lu_pivots f rows a) ps) d.outcome) (k ∙ ap lu_result d.outcome))
    where
      clear : w2 ≡ cleared w
      clear = v ∙ cleared_only w w1 enough d.only

      go : (z : LuOutcome) → fs' ≡ stand_in z (lu_factors f rows a) fs → ps' ≡ stand_in z (lu_pivots f rows a) ps → reported o ≡ lu_result z
          → Computed (factorised z (record { factors = lu_factors f rows a; pivot_rows = lu_pivots f rows a })) o fs fs' ps ps' w w2
      go (Ok _) p s t = record { outcome = t; factors = p; pivots = s; workspace = clear }
      go (Err bad) p s t = record { outcome = t; factors = p; pivots = s; workspace = clear }

  -- the report: the smallest pivot, which the code reads off the factors that were written
  pub compute_report : (fs' : List Float) (ps' : List ℕ) (w1 : List Float) (r : LuOutcome) (ρ : Report) → length a ≡ rows * rows → Computing f rows a fs fs' ps ps' w w1 r
      → reported o ≡ outcome (compute f rows columns a ps out room) → reported o ≡ lu_result r
      → ρ ≡ report_at (lu_result r) (factored (diagonal_smallest rows (part fs' 0 (rows * rows)))) → ρ ≡ report_at (compute f rows columns a ps out room) (factored (smallest_pivot f rows a))
  unfolding report_at exit lu_factors
  compute_report fs' ps' w1 r ρ size d h k e =
      e ∙ go r d.outcome d.factors ∙ ap (λ (z : Result (Unit {0})). report_at z (factored (smallest_pivot f rows a))) (sym k) ∙ report_as (compute f rows columns a ps out room) (factored (smallest_pivot f rows a)) o h
    where
      go : (z : LuOutcome) → z ≡ lu_outcome f rows a → fs' ≡ stand_in z (lu_factors f rows a) fs
          → report_at (lu_result z) (factored (diagonal_smallest rows (part fs' 0 (rows * rows)))) ≡ report_at (lu_result z) (factored (smallest_pivot f rows a))
      go (Ok _) p s =
          let whole = part_all (lu_factors f rows a) (rows * rows) (length-lu_at f rows a rows size) in
          ap factored (ap (λ (l : List Float). diagonal_smallest rows (part l 0 (rows * rows))) s ∙ ap (diagonal_smallest rows) whole ∙ smallest_read f rows a (sym p))
      go (Err bad) p s = refl
