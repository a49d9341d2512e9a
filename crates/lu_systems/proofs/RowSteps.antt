-- Laws of the loops over a right-hand matrix in a workspace: a turn of each loop over one column, and of the swaps. w₀ is the workspace before the loop,
-- w in the turn and w1 after it. Assumes nothing.
use Prim.Native.Nat.{ℕ, ◌+◌, ◌-◌, ◌*◌, ◌≤◌, ◌<◌}
use mathlib.Core.Path.{◌≡◌, refl, sym, ap, ◌∙◌}
use mathlib.Core.List.{List}
use native.Mathlib.Omega.{arith}
use lib.ListN.{length, get_or, set, length-set}
use lib.Ieee.{Float, nan, Format, sub, mul, div}
use Rattle.arithmetic_matrices.specs.Matrix.{at, item, part, put, Apart}
use Rattle.arithmetic_matrices.specs.Kernels.{patch}
use Rattle.arithmetic_matrices.proofs.PatchLaws.{length-patch}
use Rattle.arithmetic_matrices.proofs.PartLaws.{length_part, get_d_part, get_or-put_in, put-part, part_put_apart}
use Rattle.lu_factoring.specs.Solve.{swap_items, permuted, forward, back_step, back, solved, solved_matrix}
use Rattle.lu_factoring.specs.Kernels.{lowered, each_column}
use Rattle.lu_factoring.proofs.SolveLaws.{permuted_more, length-permuted, lowered_more, forward_step_lem, length-forward, forward_turn, back_step_lem, length-back_step, length_back, back_turn}
use Rattle.lu_factoring.proofs.RowLaws.{set_put_in, part_turn, part_kept, each_turn, factors_kept}

-- ---- the swaps

module _ (x n m : ℕ) (w₀ w w1 : List Float) (room : x + n * m ≤ length w₀) where
  pub permute_rows_turn : (ps : List ℕ) (k : ℕ) → w ≡ put w₀ x (each_column n m (λ l. permuted n ps l k) (part w₀ x (n * m)))
      → w1 ≡ put w x (each_column n m (swap_items n k (get_or ps k 0)) (part w x (n * m)))
      → w1 ≡ put w₀ x (each_column n m (λ l. permuted n ps l (k + 1)) (part w₀ x (n * m)))
  permute_rows_turn ps k e e1 =
      each_turn x n m (λ l. permuted n ps l k) w₀ w room e (swap_items n k (get_or ps k 0)) (λ l. permuted n ps l (k + 1)) w1
      (λ l s. length-permuted n ps l k s) (λ l s. permuted_more n ps l k) e1

-- ---- one column

module _ (f : Format) (o x n : ℕ) (w₀ w w1 : List Float) (room : x + n ≤ length w₀) (apart : Apart o (n * n) x n) where
  abbrev F₀ : List Float
  F₀ = part w₀ o (n * n)

  abbrev l₀ : List Float
  l₀ = part w₀ x n

  pub forward_column_turn : (k : ℕ) → k < n → w ≡ put w₀ x (forward f n F₀ l₀ k) → w1 ≡ put w x (patch (k + 1) n (lowered f n (part w o (n * n)) k (part w x n)) (part w x n))
      → w1 ≡ put w₀ x (forward f n F₀ l₀ (k + 1))
  forward_column_turn k hk e e1 =
      let size = length-forward f n F₀ l₀ k (length_part w₀ x n) in
      part_turn x n w₀ w w1 (forward f n F₀ l₀ k) (forward f n F₀ l₀ (k + 1)) (λ l. patch (k + 1) n (lowered f n (part w o (n * n)) k l) l) room size
      (length-forward f n F₀ l₀ (k + 1) (length_part w₀ x n)) e e1
      (forward_turn f n F₀ l₀ (forward f n F₀ l₀ k) _ k refl
      (ap (λ (a : List Float). patch (k + 1) n (lowered f n a k (forward f n F₀ l₀ k)) (forward f n F₀ l₀ k)) (part_kept o (n * n) x n w₀ w (forward f n F₀ l₀ k) apart size e)
      ∙ forward_step_lem f n F₀ k (forward f n F₀ l₀ k) size hk))

  -- the division by d, and the rows above
  pub back_column_step_is : (k : ℕ) (d : Float) → k < n → d ≡ at n F₀ k k → w ≡ set w₀ (x + k) (div f (item w₀ (x + k)) d)
      → w1 ≡ put w x (patch 0 k (lowered f n (part w o (n * n)) k (part w x n)) (part w x n))
      → w1 ≡ put w₀ x (back_step f n F₀ k l₀)
  back_column_step_is k d hk ed e e1 =
      part_turn x n w₀ w w1 M (back_step f n F₀ k l₀) (λ l. patch 0 k (lowered f n (part w o (n * n)) k l) l) room size (length-back_step f n F₀ k l₀) e' e1
      (ap (λ (a : List Float). patch 0 k (lowered f n a k M) M) (part_kept o (n * n) x n w₀ w M apart size e')
      ∙ back_step_lem f n F₀ k l₀ M (length_part w₀ x n) hk refl)
    where
      M : List Float
      M = set l₀ k (div f (item l₀ k) (at n F₀ k k))

      size : length M ≡ n
      size = length-set l₀ k (div f (item l₀ k) (at n F₀ k k)) ∙ length_part w₀ x n

      e' : w ≡ put w₀ x M
      e' =
          e
          ∙ (λ t. set (sym (put-part w₀ x n room) t) (x + k) (div f (sym (get_d_part w₀ x n k hk) t) (ed t)))
          ∙ set_put_in w₀ x l₀ k (div f (item l₀ k) (at n F₀ k k)) (omega (arith, length_part w₀ x n))

  pub back_column_turn : (k : ℕ) → w ≡ put w₀ x (back f n F₀ l₀ k) → w1 ≡ put w x (back_step f n (part w o (n * n)) (n - (k + 1)) (part w x n))
      → w1 ≡ put w₀ x (back f n F₀ l₀ (k + 1))
  back_column_turn k e e1 =
      let size = length_back f n F₀ l₀ k (length_part w₀ x n) in
      part_turn x n w₀ w w1 (back f n F₀ l₀ k) (back f n F₀ l₀ (k + 1)) (back_step f n (part w o (n * n)) (n - (k + 1))) room size
      (length_back f n F₀ l₀ (k + 1) (length_part w₀ x n)) e e1
      (back_turn f n F₀ l₀ (back f n F₀ l₀ k) _ k refl
      (ap (λ (a : List Float). back_step f n a (n - (k + 1)) (back f n F₀ l₀ k)) (part_kept o (n * n) x n w₀ w (back f n F₀ l₀ k) apart size e)))

-- the factors are at o, v is the number in row k
pub lower_column_turn : (f : Format) (o x n k lo i : ℕ) (w₀ w : List Float) (q v : Float) → k < n → lo ≤ i → i < n → x + n ≤ length w₀ → Apart o (n * n) x n
    → w ≡ put w₀ x (patch lo i (lowered f n (part w₀ o (n * n)) k (part w₀ x n)) (part w₀ x n)) → q ≡ at n (part w o (n * n)) i k → v ≡ item w₀ (x + k)
    → set w (x + i) (sub f (item w (x + i)) (mul f q v)) ≡ put w₀ x (patch lo (i + 1) (lowered f n (part w₀ o (n * n)) k (part w₀ x n)) (part w₀ x n))
lower_column_turn f o x n k lo i w₀ w q v hk from hi room apart e eq ev =
    ap (λ (a : List Float). set a (x + i) (sub f (item w (x + i)) (mul f q v))) e
    ∙ set_put_in w₀ x P i (sub f (item w (x + i)) (mul f q v)) (omega (arith, size))
    ∙ ap (put w₀ x)
    (ap (λ u. set P i (sub f u (mul f q v))) (ap (λ (a : List Float). item a (x + i)) e ∙ get_or-put_in w₀ x P i nan (omega (arith, size)) (omega (arith, size)))
    ∙ lowered_more f n F k lo i l from P q v (omega (arith, length_part w₀ x n)) refl
    (eq ∙ ap (λ (a : List Float). at n a i k) (ap (λ (a : List Float). part a o (n * n)) e ∙ part_put_apart w₀ x n P o (n * n) apart (omega (arith, size))))
    (ev ∙ sym (get_d_part w₀ x n k hk)))
  where
    F : List Float
    F = part w₀ o (n * n)

    l : List Float
    l = part w₀ x n

    P : List Float
    P = patch lo i (lowered f n F k l) l

    size : length P ≡ n
    size = length-patch lo i (lowered f n F k l) l ∙ length_part w₀ x n

-- ---- the solution

solved_each : (f : Format) (n m : ℕ) (F : List Float) (ps : List ℕ) (b : List Float) → each_column n m (solved f n F ps) b ≡ solved_matrix f n m F ps b
unfolding each_column solved_matrix
solved_each f n m F ps b = refl

-- the swaps, the forward and the back substitution, the factors being at o
pub solve_rows_is : (f : Format) (o x n m : ℕ) (ps : List ℕ) (w w1 w2 w3 : List Float) → x + n * m ≤ length w → Apart o (n * n) x (n * m)
    → w1 ≡ put w x (each_column n m (λ l. permuted n ps l n) (part w x (n * m)))
    → w2 ≡ put w1 x (each_column n m (λ l. forward f n (part w1 o (n * n)) l n) (part w1 x (n * m)))
    → w3 ≡ put w2 x (each_column n m (λ l. back f n (part w2 o (n * n)) l n) (part w2 x (n * m)))
    → w3 ≡ put w x (solved_matrix f n m (part w o (n * n)) ps (part w x (n * m)))
unfolding solved
solve_rows_is f o x n m ps w w1 w2 w3 room apart e1 e2 e3 =
    let F = part w o (n * n) in
    let P : List Float → List Float = λ l. permuted n ps l n in
    let L : List Float → List Float = λ l. forward f n F (permuted n ps l n) n in
    let F1 = factors_kept x n m P w w1 room e1 o apart in
    let e2' : w2 ≡ put w x (each_column n m L (part w x (n * m))) =
    each_turn x n m P w w1 room e1 (λ l. forward f n (part w1 o (n * n)) l n) L w2 (λ l s. length-permuted n ps l n s) (λ l s. ap (λ (a : List Float). forward f n a (P l) n) F1) e2 in
    let F2 = factors_kept x n m L w w2 room e2' o apart in
    each_turn x n m L w w2 room e2' (λ l. back f n (part w2 o (n * n)) l n) (solved f n F ps) w3
    (λ l s. length-forward f n F (P l) n (length-permuted n ps l n s)) (λ l s. ap (λ (a : List Float). back f n a (L l) n) F2) e3
    ∙ ap (put w x) (solved_each f n m F ps (part w x (n * m)))
