-- Where the root is symmetric bit for bit, or refused, both derivatives of the root are one: result, report and call. Assumes nothing.
use Prim.Native.Nat.{ℕ, ◌*◌, ◌/◌, ◌%◌}
use native.Mathlib.Omega.{arith}
use mathlib.Core.Path.{◌≡◌, refl, sym, ap, ◌∙◌, subst}
use mathlib.Core.Bool.{cond}
use mathlib.Core.List.{List, [], ◌∷◌}
use lib.Dec.{eqb}
use lib.Ieee.{Float, Format}
use Rattle.arithmetic_floats.specs.Float.{+zero}
use Rattle.arithmetic_matrices.specs.Matrix.{at, item}
use Rattle.arithmetic_matrices.specs.Product.{transpose_m}
use Rattle.arithmetic_matrices.proofs.MatrixLaws.{at-grid, grid_cong, row_lt}
use Rattle.arithmetic_questions.specs.Result.{Result, refused, done, ◌>>=◌, exit}
use Rattle.arithmetic_questions.specs.Outputs.{Both, TwoOutputsIn}
use Rattle.arithmetic_questions.specs.Questions.{answer, binary, of_frechet_sqrtm}
use Rattle.arithmetic_questions.specs.Reports.{nothing, beside, report_at}
use Rattle.arithmetic_questions.specs.declared.answer.Report.{Report}
use Rattle.functions_definitions.specs.Roots.{or_not_converged, square_root}
use Rattle.functions_definitions.specs.Derivatives.{added_where, sylvester_entry, sylvester_matrix, column_division, sylvester, scalar_derivative, root_derivative, root_with_derivative, frechet_sqrt_m, frechet_sqrt_sylvester_m, Symmetric, SymmetricRoot}
use Rattle.functions_definitions.specs.Reports.{lu_report, followed, root_report, root_derivative_report, root_with_derivative_report, frechet_sqrt_report, frechet_sqrt_sylvester_report}
use Rattle.functions_definitions.specs.Calls.{frechet_sqrtm, frechet_sqrtm_sylvester}
use Rattle.arithmetic_questions.specs.Answers.{Outcome}

module _ (f : Format) (n : ℕ) (s : List Float) (h : Symmetric n s) where
  -- the system reads of T the entries that S has, too
  same_system : sylvester_matrix f n s (transpose_m n s) ≡ sylvester_matrix f n s s
  unfolding sylvester_matrix sylvester_entry transpose_m
  same_system =
      grid_cong (n * n) (n * n) _ _
      (λ i j hi hj.
      let p = row_lt n n i hi in
      let q = row_lt n n j hj in
      ap (added_where f (added_where f +zero (i / n) (j / n) (at n s (i % n) (j % n))) (i % n) (j % n)) (at-grid n n (λ r c. at n s c r) (i / n) (j / n) p q ∙ h (j / n) (i / n) q p))

  same_derivative : (e : List Float) → root_derivative f n s (transpose_m n s) e ≡ root_derivative f n s s e
  unfolding root_derivative sylvester
  same_derivative e =
      ap (λ (m : List Float).
      cond (eqb n 1) (done 0 (scalar_derivative f (item s 0) (item e 0) ∷ [])) (or_not_converged (column_division f (n * n) m (transpose_m n e)) >>= λ x. done 0 (transpose_m n x)))
      same_system

  same_derivative_report : root_derivative_report f n s (transpose_m n s) ≡ root_derivative_report f n s s
  unfolding root_derivative_report
  same_derivative_report = ap (λ (m : List Float). cond (eqb n 1) nothing (lu_report f (n * n) m)) same_system

module _ (f : Format) (n : ℕ) (a : List Float) (h : SymmetricRoot f n a) where
  same_root : (e : List Float) → frechet_sqrt_sylvester_m f n a e ≡ frechet_sqrt_m f n a e
  unfolding frechet_sqrt_sylvester_m frechet_sqrt_m root_with_derivative ◌>>=◌
  same_root e = go (square_root f n a) h
    where
      -- the root, and what solves the system with T
      solving : (List Float → List Float) → Result (List Float) → Result Both
      solving second r = r >>= λ s. root_derivative f n s (second s) e >>= λ x. done 0 (record { value = s; derivative = x })

      go : (r : Result (List Float)) → ((k : ℕ) (s : List Float) → r ≡ done k s → Symmetric n s) → solving (transpose_m n) r ≡ solving (λ s. s) r
      go (refused k i j) l = refl
      go (done k s) l = ap (λ (d : Result (List Float)). d >>= λ x. done 0 (record { value = s; derivative = x })) (same_derivative f n s (l k s refl) e)

  same_root_report : frechet_sqrt_sylvester_report f n a ≡ frechet_sqrt_report f n a
  unfolding frechet_sqrt_sylvester_report frechet_sqrt_report root_with_derivative_report followed exit
  same_root_report = go (square_root f n a) h
    where
      go : (r : Result (List Float)) → ((k : ℕ) (s : List Float) → r ≡ done k s → Symmetric n s)
          → followed r (root_report f n a) (λ s. root_derivative_report f n s (transpose_m n s)) ≡ followed r (root_report f n a) (λ s. root_derivative_report f n s s)
      go (refused k i j) l = refl
      go (done k s) l = ap (beside (root_report f n a)) (same_derivative_report f n s (l k s refl))

-- `SymmetricRoot` holds where the root is refused, and at order 1, so that the calls answer alike there, too
pub refused_symmetric : (f : Format) (n k i j : ℕ) (a : List Float) → square_root f n a ≡ refused k i j → SymmetricRoot f n a
refused_symmetric f n k i j a e m s h = absurd (refused≢done (sym e ∙ h))
  where
    is_done : {A : Type 0} → Result A → Type 0
    is_done (refused x y z) = ⊥
    is_done (done x v) = Unit {0}

    refused≢done : refused k i j ≡ done m s → ⊥
    refused≢done q = subst is_done (sym q) tt

pub number_symmetric : (f : Format) (a : List Float) → SymmetricRoot f 1 a
number_symmetric f a k s e i j hi hj =
    let zi : i ≡ 0 = omega arith in
    let zj : j ≡ 0 = omega arith in
    rw (zi, zj) refl

-- the calls ask the same questions, and answer alike
module _ (f : Format) (r c : ℕ) (a : List Float) (r' c' : ℕ) (e : List Float) (out out' room : ℕ) where
  same_call : SymmetricRoot f r a → frechet_sqrtm_sylvester f r c a r' c' e out out' room ≡ frechet_sqrtm f r c a r' c' e out out' room
  unfolding frechet_sqrtm_sylvester frechet_sqrtm
  same_call h = ap (answer of_frechet_sqrtm (binary r c a r' c' e (out ∷ out' ∷ []) room)) (same_root f r a h e)

  pub same_answer : {o : Outcome} {first first' second second' w w' : List Float} {ρ : Report}
      → TwoOutputsIn (frechet_sqrtm_sylvester f r c a r' c' e out out' room) o first first' second second' w w'
      → ρ ≡ report_at (frechet_sqrtm_sylvester f r c a r' c' e out out' room) (frechet_sqrt_sylvester_report f r a)
      → SymmetricRoot f r a
      → TwoOutputsIn (frechet_sqrtm f r c a r' c' e out out' room) o first first' second second' w w'
      × (ρ ≡ report_at (frechet_sqrtm f r c a r' c' e out out' room) (frechet_sqrt_report f r a))
  same_answer {o} {first} {first'} {second} {second'} {w} {w'} O R h = (
    subst (λ (y : Result Both). TwoOutputsIn y o first first' second second' w w') (same_call h) O,
    R ∙ (λ i. report_at (same_call h i) (same_root_report f r a h i)),
  )
