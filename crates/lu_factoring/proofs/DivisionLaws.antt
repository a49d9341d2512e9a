-- What `divide` leaves where the matrix stands in slot a and the right-hand matrix in slot b of a workspace. Assumes nothing.
use Rattle.std.specs.Prelude.{Ok, Err}
use mathlib.Core.Path.{◌≡◌}
use mathlib.Core.Bool.{false}
use mathlib.Core.List.{List, [], ◌∷◌}
use Prim.Native.Nat.{ℕ, ◌*◌, ◌<◌}
use native.Mathlib.Omega.{arith}
use lib.Dec.{eqb}
use lib.ListN.{length}
use lib.Ieee.{Float, Format}
use Rattle.arithmetic_matrices.specs.Matrix.{part, put}
use Rattle.arithmetic_matrices.specs.Workspace.{Room, slot, store, member, Only}
use Rattle.arithmetic_matrices.proofs.MatrixLaws.{square_le, length-grid}
use Rattle.arithmetic_matrices.proofs.PartLaws.{part_put, part_put_apart, length-put, length_part}
use Rattle.arithmetic_matrices.proofs.Slots.{only_trans, only_store, slots_apart, eqb_swap, member_here, member_next}
use Rattle.lu_factoring.specs.Lu.{LuOutcome, lu_factors, lu_pivots, lu_at}
use Rattle.lu_factoring.specs.Solve.{stand_in, quotient, solved_matrix}
use Rattle.lu_factoring.specs.Kernels.{divided}
use Rattle.lu_factoring.proofs.LuLaws.{length-lu_at}

pub length-solved_matrix : (f : Format) (n m : ℕ) (F : List Float) (ps : List ℕ) (b : List Float) → length (solved_matrix f n m F ps b) ≡ n * m
unfolding solved_matrix
length-solved_matrix f n m F ps b = length-grid n m _

module _ (f : Format) (n a b : ℕ) (w : List Float) (r : Room n w) (b<32 : b < 32) where
  -- slot b holds the quotient, or what it held where LU refuses
  pub divided_slot : (o : LuOutcome) → eqb a b ≡ false → slot n (divided f n n (256 * a) (256 * b) w o) b ≡ stand_in o (quotient f n (slot n w a) (slot n w b)) (slot n w b)
  unfolding divided quotient slot
  divided_slot (Ok _) e =
      let A = part w (256 * a) (n * n) in
      part_put (put w (256 * a) (lu_factors f n A)) (256 * b) (solved_matrix f n n (lu_factors f n A) (lu_pivots f n A) (part w (256 * b) (n * n))) (n * n)
      (length-solved_matrix f n n (lu_factors f n A) (lu_pivots f n A) (part w (256 * b) (n * n))) (omega (arith, length-put w (256 * a) (lu_factors f n A), square_le n r.order, r.space))
  divided_slot (Err bad) e =
      let A = part w (256 * a) (n * n) in
      part_put_apart w (256 * a) (n * n) (lu_at f n A bad.column) (256 * b) (n * n) (slots_apart b a (n * n) (n * n) (eqb_swap a b e) (square_le n r.order) (square_le n r.order))
      (omega (arith, length-lu_at f n A bad.column (length_part w (256 * a) (n * n))))

  -- and no other slot changes but a
  pub divided_only : (o : LuOutcome) → Only (member (a ∷ b ∷ [])) w (divided f n n (256 * a) (256 * b) w o)
  unfolding divided store
  divided_only (Ok _) =
      let A = part w (256 * a) (n * n) in
      let F = lu_factors f n A in
      let X = solved_matrix f n n F (lu_pivots f n A) (part w (256 * b) (n * n)) in
      let size = length-lu_at f n A n (length_part w (256 * a) (n * n)) in
      only_trans (only_store (member (a ∷ b ∷ [])) w a F (member_here a (b ∷ [])) (unfold lu_factors in omega (arith, size, square_le n r.order)))
      (only_store (member (a ∷ b ∷ [])) (put w (256 * a) F) b X (member_next a (b ∷ []) b (member_here b [])) (omega (arith, length-solved_matrix f n n F (lu_pivots f n A) (part w (256 * b) (n * n)), square_le n r.order)))
  divided_only (Err bad) =
      let A = part w (256 * a) (n * n) in
      only_store (member (a ∷ b ∷ [])) w a (lu_at f n A bad.column) (member_here a (b ∷ [])) (omega (arith, length-lu_at f n A bad.column (length_part w (256 * a) (n * n)), square_le n r.order))
