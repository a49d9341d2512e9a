-- Laws of a system in a workspace whose matrix is factored there (Kernels.antt). Assumes nothing.
use Rattle.std.specs.Prelude.{Ok}
use Prim.Native.Nat.{ℕ, ◌+◌, ◌*◌, ◌≤◌, ◌<◌}
use mathlib.Core.Path.{◌≡◌, ap, ◌∙◌}
use mathlib.Core.List.{List}
use native.Mathlib.Omega.{arith}
use lib.ListN.{length, get_or}
use lib.Ieee.{Float, Format}
use Rattle.arithmetic_matrices.specs.Matrix.{part, Apart, put}
use Rattle.arithmetic_matrices.specs.Kernels.{patch}
use Rattle.arithmetic_matrices.proofs.PatchLaws.{patch_all}
use Rattle.arithmetic_matrices.proofs.PartLaws.{length_part, part_put, part_put_apart, apart_sym}
use Rattle.lu_factoring.specs.Lu.{LuOutcome, singular, lu_at, lu_factors, lu_pivot, lu_pivots}
use Rattle.lu_factoring.specs.Kernels.{columns_done, LuDoneIn, divided}
use Rattle.lu_factoring.specs.Solve.{solved_matrix}
use Rattle.lu_factoring.proofs.LuLaws.{pivots_in, length-lu_at}

module _ (f : Format) (n o : ℕ) (w : List Float) (ps : List ℕ) (w1 : List Float) (ps1 : List ℕ) (r : LuOutcome) (d : LuDoneIn f n o w ps w1 ps1 r) where
  -- where all columns pass, the factors and the pivots
  pub in_factors : r ≡ Ok tt → w1 ≡ put w o (lu_factors f n (part w o (n * n)))
  unfolding lu_factors
  in_factors all = d.factors ∙ ap (λ (z : LuOutcome). put w o (lu_at f n (part w o (n * n)) (columns_done n z))) all

  pub in_pivots : r ≡ Ok tt → length ps ≡ n → ps1 ≡ lu_pivots f n (part w o (n * n))
  unfolding lu_pivots
  in_pivots all e = d.pivots ∙ ap (λ (z : LuOutcome). patch 0 (columns_done n z) (lu_pivot f n (part w o (n * n))) ps) all ∙ patch_all 0 n (lu_pivot f n (part w o (n * n))) ps e

  pub in_rows : r ≡ Ok tt → length ps ≡ n → (k : ℕ) → k < n → get_or ps1 k 0 < n
  in_rows all e k h = rw (in_pivots all e) (pivots_in f n (part w o (n * n)) k h).1

  pub divided_all : (m x : ℕ) (w2 : List Float) → r ≡ Ok tt → length ps ≡ n → o + n * n ≤ length w → Apart o (n * n) x (n * m)
      → w2 ≡ put w1 x (solved_matrix f n m (part w1 o (n * n)) ps1 (part w1 x (n * m))) → w2 ≡ divided f n m o x w (Ok tt)
  unfolding divided lu_factors
  divided_all m x w2 all e hf apart e2 =
      let a = part w o (n * n) in
      let F = lu_factors f n a in
      let size : length F ≡ n * n = length-lu_at f n a n (length_part w o (n * n)) in
      e2
      ∙ rw (in_factors all, in_pivots all e, part_put w o F (n * n) size hf, part_put_apart w o (n * n) F x (n * m) (apart_sym o (n * n) x (n * m) apart) (omega (arith, size)))

  pub divided_none : (m x k : ℕ) → r ≡ singular k → w1 ≡ divided f n m o x w (singular k)
  unfolding divided
  divided_none m x k e = d.factors ∙ ap (λ (z : LuOutcome). put w o (lu_at f n (part w o (n * n)) (columns_done n z))) e
