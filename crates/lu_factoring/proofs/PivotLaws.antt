-- The diagonal of LU's factors holds the pivots, so the code reads the smallest off the factors. Assumes nothing.
use Rattle.std.specs.Prelude.{Ok}
use Prim.Native.Nat.{ℕ, zero, suc, ◌+◌, ◌-◌, ◌*◌, ◌≤◌, ◌<◌}
use native.Mathlib.Nat.{le_of_eq}
use native.Mathlib.Omega.{arith}
use native.Mathlib.Numerals.{unary_clauses}
use mathlib.Core.Path.{◌≡◌, refl, sym, ap, ap₂, ◌∙◌}
use mathlib.Core.Bool.{Bool, cond}
use mathlib.Core.List.{List}
use lib.Dec.{ltb}
use lib.ListN.{length}
use lib.Arith.{le→nltb}
use lib.Ieee.{Float, Format}
use lib.Ieee.Bits.{is_false}
use Rattle.arithmetic_floats.specs.Float.{+infinity, magnitude, smaller}
use Rattle.arithmetic_matrices.specs.Matrix.{at, item, part, put, Apart}
use Rattle.arithmetic_matrices.specs.Norm.{smallest}
use Rattle.arithmetic_matrices.proofs.PartLaws.{length_part, at_part, part_put, part_put_apart}
use Rattle.arithmetic_matrices.proofs.MatrixLaws.{at-grid, length-grid}
use Rattle.lu_factoring.specs.Lu.{LuOutcome, singular, exchange, swap_rows, pivot_reciprocal, reduced, eliminated_entry, eliminated, pivot_row, lu_at, lu_pivot, lu_pivots, lu_factors, lu_outcome}
use Rattle.lu_factoring.specs.Solve.{stand_in, solved_matrix}
use Rattle.lu_factoring.specs.Kernels.{divided, diagonal_smallest}
use Rattle.lu_factoring.proofs.LuLaws.{exchange_first, exchange_other, pivot_row_in, length-lu_at}
use Rattle.lu_factoring.specs.Pivots.{pivot_size, smallest_pivot}

-- the elimination of column j leaves the rows down to j as the swap made them
above : (f : Format) (n j i c : ℕ) (m : List Float) (p : ℕ) → i ≤ j → i < n → c < n → at n (eliminated f n j (swap_rows n j p m)) i c ≡ at n m (exchange j p i) c
unfolding eliminated eliminated_entry swap_rows
above f n j i c m p h I C =
    let b = swap_rows n j p m in
    let t = pivot_reciprocal f n j b in
    at-grid n n (eliminated_entry f n j t b) i c I C
    ∙ ap (λ (s : Bool). cond s (reduced f n j t b i c) (at n b i c)) (is_false (ltb j i) (le→nltb j i h))
    ∙ at-grid n n (λ i c. at n m (exchange j p i) c) i c I C

-- column k puts its pivot on the diagonal, and no later column moves it
placed : (f : Format) (n k : ℕ) (a : List Float) → k < n → at n (lu_at f n a (suc k)) k k ≡ at n (lu_at f n a k) (lu_pivot f n a k) k
unfolding lu_at lu_pivot
placed f n k a h =
    let m = lu_at f n a k in
    above f n k k k m (pivot_row n m k) (omega arith) h h ∙ ap (λ (i : ℕ). at n m i k) (exchange_first k (pivot_row n m k))

stays : (f : Format) (n k d : ℕ) (a : List Float) → suc (k + d) < n → at n (lu_at f n a (suc (suc (k + d)))) k k ≡ at n (lu_at f n a (suc (k + d))) k k
unfolding lu_at lu_pivot
stays f n k d a h =
    let j = suc (k + d) in
    let m = lu_at f n a j in
    let p = pivot_row n m j in
    let low : j ≤ p = (pivot_row_in n m j h).0 in
    above f n j k k m p (omega arith) (omega arith) (omega arith)
    ∙ ap (λ (i : ℕ). at n m i k) (exchange_other j p k (λ e. absurd (omega (arith, e))) (λ e. absurd (omega (arith, e, low))))

kept : (f : Format) (n k d : ℕ) (a : List Float) → k + d < n → at n (lu_at f n a (suc (k + d))) k k ≡ at n (lu_at f n a (suc k)) k k
kept f n k zero a h = simp unary_clauses refl
kept f n k (suc d) a h = let less : k + d < n = omega arith in let more : suc (k + d) < n = omega arith in simp unary_clauses (stays f n k d a more ∙ kept f n k d a less)

pivot_on_diagonal : (f : Format) (n k : ℕ) (a : List Float) → k < n → at n (lu_factors f n a) k k ≡ at n (lu_at f n a k) (lu_pivot f n a k) k
unfolding lu_factors
pivot_on_diagonal f n k a h =
    let d = n - suc k in
    let last : suc (k + d) ≡ n = omega (arith, h) in
    let within : k + d < n = omega (arith, h) in
    sym (ap (λ (j : ℕ). at n (lu_at f n a j) k k) last) ∙ kept f n k d a within ∙ placed f n k a h

smallest_cong : (k : ℕ) (g h : ℕ → Float) → ((i : ℕ) → i < k → g i ≡ h i) → smallest k g ≡ smallest k h
unfolding smallest
smallest_cong zero g h e = refl
smallest_cong (suc k) g h e =
    ap (λ (x : Float). smaller x (g k)) (smallest_cong k g h (λ i l. e i (omega arith))) ∙ ap (smaller (smallest k h)) (e k (omega arith))

-- what the code finds on the diagonal of the factors
pub smallest_read : (f : Format) (n : ℕ) (a : List Float) → lu_outcome f n a ≡ Ok tt → diagonal_smallest n (lu_factors f n a) ≡ smallest_pivot f n a
unfolding diagonal_smallest smallest_pivot pivot_size
smallest_read f n a o =
    smallest_cong n (λ k. magnitude (at n (lu_factors f n a) k k)) (pivot_size f n a) (λ k l. ap magnitude (pivot_on_diagonal f n k a l))
    ∙ sym (ap (λ r. stand_in r (smallest n (pivot_size f n a)) +infinity) o)

-- ---- in a workspace

diagonal_part : (n : ℕ) (w : List Float) (off : ℕ) → diagonal_smallest n (part w off (n * n)) ≡ smallest n (λ j. magnitude (item w (off + (j * n + j))))
unfolding diagonal_smallest
diagonal_part n w off =
    smallest_cong n (λ k. magnitude (at n (part w off (n * n)) k k)) (λ j. magnitude (item w (off + (j * n + j)))) (λ k l. ap magnitude (at_part w off n n k k l l))

-- ---- the search on the diagonal of the n by n matrix at off

-- least is the smallest magnitude of the first k on the diagonal
pub record SmallestTo (n : ℕ) (w : List Float) (off : ℕ) (least : Float) (k : ℕ) : Type 0 where
  pub within : k ≤ n
  pub size : least ≡ smallest k (λ j. magnitude (item w (off + (j * n + j))))

pub smallest_start : (n : ℕ) (w : List Float) (off : ℕ) → SmallestTo n w off +infinity 0
unfolding smallest
smallest_start n w off = record { within = omega arith; size = refl }

module _ {n : ℕ} {w : List Float} {off : ℕ} {least : Float} {k : ℕ} (s : SmallestTo n w off least k) where
  pub smallest_turn : {least' v : Float} → k < n → v ≡ magnitude (item w (off + (k * n + k))) → least' ≡ smaller least v → SmallestTo n w off least' (k + 1)
  unfolding smallest
  smallest_turn h e l =
      let one_more : k + 1 ≡ suc k = omega arith in
      let g : ℕ → Float = λ j. magnitude (item w (off + (j * n + j))) in
      record { within = omega arith; size = l ∙ ap₂ smaller s.size e ∙ ap (λ (i : ℕ). smallest i g) (sym one_more) }

  pub smallest_end : n ≤ k → least ≡ diagonal_smallest n (part w off (n * n))
  smallest_end h = let e : k ≡ n = omega (arith, s.within) in (rw e at s.size) ∙ sym (diagonal_part n w off)

-- ---- after a division

-- a division leaves the factors where the matrix stood
left : (f : Format) (n m o x : ℕ) (w : List Float) → o + n * n ≤ length w → Apart o (n * n) x (n * m)
    → part (divided f n m o x w (Ok tt)) o (n * n) ≡ lu_factors f n (part w o (n * n))
unfolding divided lu_factors solved_matrix
left f n m o x w h p =
    let a = part w o (n * n) in
    let F = lu_factors f n a in
    let S = solved_matrix f n m F (lu_pivots f n a) (part w x (n * m)) in
    part_put_apart (put w o F) x (n * m) S o (n * n) p (le_of_eq (length-grid n m _))
    ∙ part_put w o F (n * n) (length-lu_at f n a n (length_part w o (n * n))) h

pub report_factored : (f : Format) (n m o x : ℕ) (w w' : List Float) (r : LuOutcome) (v : Float) → o + n * n ≤ length w → Apart o (n * n) x (n * m) → r ≡ Ok tt
    → r ≡ lu_outcome f n (part w o (n * n)) → w' ≡ divided f n m o x w r → v ≡ diagonal_smallest n (part w' o (n * n)) → v ≡ smallest_pivot f n (part w o (n * n))
report_factored f n m o x w w' r v h p t e d s =
    s ∙ ap (λ (l : List Float). diagonal_smallest n (part l o (n * n))) (d ∙ ap (divided f n m o x w) t)
    ∙ ap (diagonal_smallest n) (left f n m o x w h p)
    ∙ smallest_read f n (part w o (n * n)) (sym e ∙ t)

pub report_singular : (f : Format) (n k : ℕ) (a : List Float) (r : LuOutcome) → r ≡ singular k → r ≡ lu_outcome f n a → +infinity ≡ smallest_pivot f n a
unfolding smallest_pivot
report_singular f n k a r t e = sym (ap (λ r. stand_in r (smallest n (pivot_size f n a)) +infinity) (sym e ∙ t))
