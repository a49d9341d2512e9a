-- What the loops of the substitutions keep, each with its laws: start, one turn, end. x is the right-hand matrix and x₀ what it was before the loop, F the
-- list of the factors. Assumes nothing.
use Prim.Native.Nat.{ℕ, ◌+◌, ◌-◌, ◌*◌, ◌≤◌, ◌<◌}
use mathlib.Core.Path.{◌≡◌, refl, sym, ap, subst, ◌∙◌}
use mathlib.Core.List.{List}
use native.Mathlib.Nat.{zero-add, add_assoc}
use native.Mathlib.Omega.{arith}
use lib.ListN.{length, get_or}
use lib.Ieee.{Float, nan, Format}
use Rattle.arithmetic_matrices.specs.Matrix.{tab, at, item, part, put}
use Rattle.arithmetic_matrices.proofs.MatrixLaws.{length-grid}
use Rattle.arithmetic_matrices.proofs.PatchLaws.{patch_none}
use Rattle.arithmetic_matrices.proofs.PartLaws.{put_all, part_all}
use Rattle.lu_factoring.specs.Solve.{swap_items, permuted, forward, back, solved, solved_matrix}
use Rattle.lu_factoring.specs.Kernels.{each_column}
use Rattle.lu_factoring.proofs.SolveLaws.{permuted_more, length-permuted, length-forward}
use Rattle.lu_factoring.proofs.RowLaws.{each_none, each_cong, each_turn}
use Rattle.lu_systems.specs.Kernels.{lower_entry, upper_entry, row_at, column_at}
use Rattle.lu_systems.proofs.ByRows.{forward_to, back_from, forward_all, back_all, forward_row, back_row}

-- ---- every column changed, the matrix being the whole list

each_whole : (n m : ℕ) (g : List Float → List Float) (x : List Float) → length x ≡ n * m → put x 0 (each_column n m g (part x 0 (n * m))) ≡ each_column n m g x
unfolding each_column
each_whole n m g x size =
    put_all x (each_column n m g (part x 0 (n * m))) (length-grid n m _ ∙ sym size) ∙ ap (each_column n m g) (part_all x (n * m) size)

pub each_size : (n m : ℕ) (g : List Float → List Float) (x x1 : List Float) → x1 ≡ each_column n m g x → length x1 ≡ n * m
unfolding each_column
each_size n m g x x1 e = ap length e ∙ length-grid n m _

each_start : (n m : ℕ) (g : List Float → List Float) (x : List Float) → length x ≡ n * m → ((l : List Float) → length l ≡ n → g l ≡ l) → x ≡ each_column n m g x
each_start n m g x size same = each_none x 0 n m g (omega arith) same ∙ each_whole n m g x size

-- one change after another
each_then : (n m : ℕ) (h g k : List Float → List Float) (x x1 x2 : List Float) → length x ≡ n * m → ((l : List Float) → length l ≡ n → length (h l) ≡ n)
    → ((l : List Float) → length l ≡ n → g (h l) ≡ k l) → x1 ≡ each_column n m h x → x2 ≡ each_column n m g x1 → x2 ≡ each_column n m k x
each_then n m h g k x x1 x2 size keeps same e1 e2 =
    each_turn 0 n m h x x1 (omega arith) (e1 ∙ sym (each_whole n m h x size)) g k x2 keeps same (e2 ∙ sym (each_whole n m g x1 (each_size n m h x x1 e1)))
    ∙ each_whole n m k x size

-- ---- any value that is made step by step

-- x is what the first k of n steps give, S k
pub record Steps {A : Type 0} (S : ℕ → A) (n : ℕ) (x : A) (k : ℕ) : Type 0 where
  pub within : k ≤ n
  pub value : x ≡ S k

pub steps_start : {A : Type 0} {S : ℕ → A} {n : ℕ} {x : A} → x ≡ S 0 → Steps S n x 0
steps_start e = record { within = omega arith; value = e }

pub steps_turn : {A : Type 0} {S : ℕ → A} {n : ℕ} {x y : A} {k : ℕ} → Steps S n x k → k < n → y ≡ S (k + 1) → Steps S n y (k + 1)
steps_turn s h e = record { within = omega arith; value = e }

pub steps_end : {A : Type 0} {S : ℕ → A} {n : ℕ} {x : A} {k : ℕ} → Steps S n x k → n ≤ k → x ≡ S n
steps_end {n = n} {k = k} s h = let e : k ≡ n = omega (arith, s.within) in rw e at s.value

-- ---- the swaps

-- the first k are done in each column of x
abbrev pub swapped : ℕ → ℕ → List ℕ → List Float → ℕ → List Float
swapped n m ps x k = each_column n m (λ l. permuted n ps l k) x

module _ (n m : ℕ) (ps : List ℕ) (x₀ : List Float) (size : length x₀ ≡ n * m) where
  pub swapped_start : Steps (swapped n m ps x₀) n x₀ 0
  unfolding permuted
  swapped_start = steps_start (each_start n m (λ a. permuted n ps a 0) x₀ size (λ a s. refl))

  pub swapped_turn : {x x1 : List Float} {k : ℕ} → Steps (swapped n m ps x₀) n x k → k < n → x1 ≡ put x 0 (each_column n m (swap_items n k (get_or ps k 0)) (part x 0 (n * m)))
      → Steps (swapped n m ps x₀) n x1 (k + 1)
  swapped_turn {x} {x1} {k} s h e =
      steps_turn s h
      (each_then n m (λ l. permuted n ps l k) (swap_items n k (get_or ps k 0)) (λ l. permuted n ps l (k + 1)) x₀ x x1 size (λ l d. length-permuted n ps l k d)
      (λ l d. permuted_more n ps l k) s.value (e ∙ each_whole n m (swap_items n k (get_or ps k 0)) x (each_size n m (λ l. permuted n ps l k) x₀ x s.value)))

-- ---- forward substitution

-- the first i rows of x are final
abbrev pub forwarded : Format → ℕ → ℕ → List Float → List Float → ℕ → List Float
forwarded f n m F x i = each_column n m (forward_to f n F i) x

module _ (f : Format) (n m : ℕ) (F x₀ : List Float) (size : length x₀ ≡ n * m) where
  pub forwarded_start : Steps (forwarded f n m F x₀) n x₀ 0
  forwarded_start = steps_start (each_start n m (forward_to f n F 0) x₀ size (λ a s. sym (patch_none nan 0 (item (forward f n F a n)) a)))

  pub forwarded_turn : {x x1 : List Float} {i : ℕ} → Steps (forwarded f n m F x₀) n x i → i < n → x1 ≡ put x (i * m) (tab m (lower_entry f i (row_at F (i * n)) (column_at m x 0) (row_at x (i * m))))
      → Steps (forwarded f n m F x₀) n x1 (i + 1)
  unfolding at
  forwarded_turn {x} {x1} {i} s h e =
      steps_turn s h
      (forward_row f 0 n m F x₀ x (omega arith) i (row_at F (i * n)) x1 h (λ k b. refl) (s.value ∙ sym (each_whole n m (forward_to f n F i) x₀ size))
      (subst (λ (y : ℕ). x1 ≡ put x y (tab m (lower_entry f i (row_at F (i * n)) (column_at m x 0) (row_at x y)))) (sym (zero-add (i * m))) e)
      ∙ each_whole n m (forward_to f n F (i + 1)) x₀ size)

  pub forwarded_end : {x : List Float} {i : ℕ} → Steps (forwarded f n m F x₀) n x i → n ≤ i → x ≡ each_column n m (λ l. forward f n F l n) x₀
  forwarded_end s h = steps_end s h ∙ each_cong n m (forward_to f n F n) (λ l. forward f n F l n) x₀ (forward_all f n F)

-- ---- back substitution

-- the last k rows of x are final
abbrev pub backed : Format → ℕ → ℕ → List Float → List Float → ℕ → List Float
backed f n m F x k = each_column n m (back_from f n F (n - k)) x

module _ (f : Format) (n m : ℕ) (F x₀ : List Float) (size : length x₀ ≡ n * m) where
  -- the rows from i on
  from_row : (k : ℕ) {i : ℕ} → n - k ≡ i → backed f n m F x₀ k ≡ each_column n m (back_from f n F i) x₀
  from_row k e = ap (λ (i : ℕ). each_column n m (back_from f n F i) x₀) e

  pub backed_start : Steps (backed f n m F x₀) n x₀ 0
  backed_start = steps_start (each_start n m (back_from f n F n) x₀ size (λ a s. sym (patch_none nan n (item (back f n F a n)) a)) ∙ sym (from_row _ (omega arith)))

  pub backed_turn : {x x1 : List Float} {k : ℕ} → Steps (backed f n m F x₀) n x k → k < n
      → let i : ℕ = n - 1 - k in x1 ≡ put x (i * m) (tab m (upper_entry f k (row_at F (i * n + i)) (column_at m x (i * m)) (row_at x (i * m)))) → Steps (backed f n m F x₀) n x1 (k + 1)
  unfolding at
  backed_turn {x} {x1} {k} s h e =
      let i : ℕ = n - 1 - k in
      steps_turn s h
      (back_row f 0 n m F x₀ x (omega arith) i k (row_at F (i * n + i)) x1 (omega arith) (λ d u. ap (item F) (add_assoc (i * n) i d))
      (s.value ∙ from_row _ (omega arith) ∙ sym (each_whole n m (back_from f n F (i + 1)) x₀ size))
      (subst (λ (y : ℕ). x1 ≡ put x y (tab m (upper_entry f k (row_at F (i * n + i)) (column_at m x y) (row_at x y)))) (sym (zero-add (i * m))) e)
      ∙ each_whole n m (back_from f n F i) x₀ size
      ∙ sym (from_row _ (omega arith)))

  pub backed_end : {x : List Float} {k : ℕ} → Steps (backed f n m F x₀) n x k → n ≤ k → x ≡ each_column n m (λ l. back f n F l n) x₀
  backed_end s h = steps_end s h ∙ from_row _ (omega arith) ∙ each_cong n m (back_from f n F 0) (λ l. back f n F l n) x₀ (back_all f n F)

-- ---- the solution: the swaps, the forward and the back substitution

pub solve_rows_is : (f : Format) (n m : ℕ) (F : List Float) (ps : List ℕ) (x x1 x2 x3 : List Float) → length x ≡ n * m
    → x1 ≡ each_column n m (λ l. permuted n ps l n) x → x2 ≡ each_column n m (λ l. forward f n F l n) x1 → x3 ≡ each_column n m (λ l. back f n F l n) x2
    → x3 ≡ solved_matrix f n m F ps x
unfolding solved solved_matrix each_column
solve_rows_is f n m F ps x x1 x2 x3 size e1 e2 e3 =
    each_then n m (λ l. forward f n F (permuted n ps l n) n) (λ l. back f n F l n) (solved f n F ps) x x2 x3 size
    (λ l s. length-forward f n F (permuted n ps l n) n (length-permuted n ps l n s)) (λ l s. refl)
    (each_then n m (λ l. permuted n ps l n) (λ l. forward f n F l n) (λ l. forward f n F (permuted n ps l n) n) x x1 x2 size (λ l s. length-permuted n ps l n s)
    (λ l s. refl) e1 e2)
    e3
