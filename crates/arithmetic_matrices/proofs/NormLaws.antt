-- Laws of the norms. Assumes nothing.
use Prim.Native.Nat.{ℕ, zero, suc, ◌+◌, ◌*◌, ◌<◌}
use native.Mathlib.Numerals.{add-one}
use native.Mathlib.Omega.{arith}
use mathlib.Core.Path.{◌≡◌, refl, ◌∙◌, ap}
use mathlib.Core.List.{List}
use lib.ListN.{get_or}
use lib.Ieee.{Float, Format, nan}
use Rattle.arithmetic_floats.specs.Float.{magnitude, larger}
use Rattle.arithmetic_matrices.specs.Matrix.{part, tab, grid, item}
use Rattle.arithmetic_matrices.specs.Product.{dot, sum, minus_identity_entry, minus_identity_m}
use Rattle.arithmetic_matrices.specs.Norm.{sum_of_magnitudes, largest, norm1, sum_of_squares, trace}
use Rattle.arithmetic_matrices.proofs.MatrixLaws.{get_or-tab, at-grid}
use Rattle.arithmetic_matrices.proofs.PartLaws.{at_part}
use Rattle.arithmetic_matrices.proofs.ProductLaws.{sum_cong, dot_cong, minus_identity_m_part}

-- ---- sums of magnitudes

pub magnitudes_cong : (f : Format) (k : ℕ) (g h : ℕ → Float) → ((i : ℕ) → i < k → g i ≡ h i) → sum_of_magnitudes f k g ≡ sum_of_magnitudes f k h
unfolding sum_of_magnitudes
magnitudes_cong f k g h e = sum_cong f k _ _ (λ i b. ap magnitude (e i b))

-- ---- the 1-norm

pub largest_more : (k : ℕ) (g : ℕ → Float) → largest (k + 1) g ≡ larger (largest k g) (g k)
unfolding largest
largest_more k g = rw add-one refl

pub largest_cong : (k : ℕ) (g h : ℕ → Float) → ((i : ℕ) → i < k → g i ≡ h i) → largest k g ≡ largest k h
unfolding largest
largest_cong zero g h e = refl
largest_cong (suc k) g h e = λ i. larger (largest_cong k g h (λ j b. e j (omega arith)) i) (e k (omega arith) i)

-- the 1-norm of a matrix that lies in a list
pub norm1-part : (f : Format) (n : ℕ) (w : List Float) (x : ℕ) → norm1 f n (part w x (n * n)) ≡ largest n (λ j. sum_of_magnitudes f n (λ i. get_or w (x + (i * n + j)) nan))
unfolding norm1
norm1-part f n w x = largest_cong n _ _ (λ j hj. magnitudes_cong f n _ _ (λ i hi. at_part w x n n i j hi hj))

-- the 1-norm of a matrix that is given by its entries
norm1-grid : (f : Format) (n : ℕ) (g : ℕ → ℕ → Float) → norm1 f n (grid n n g) ≡ largest n (λ j. sum_of_magnitudes f n (λ i. g i j))
unfolding norm1
norm1-grid f n g = largest_cong n _ _ (λ j hj. magnitudes_cong f n _ _ (λ i hi. at-grid n n g i j hi hj))

-- and of one that lies in a list, less the identity
pub norm1_minus_identity : (f : Format) (n : ℕ) (w : List Float) (x : ℕ) → norm1 f n (minus_identity_m f n (part w x (n * n))) ≡ largest n (λ j. sum_of_magnitudes f n (λ i. minus_identity_entry f i j (item w (x + (i * n + j)))))
norm1_minus_identity f n w x = ap (norm1 f n) (minus_identity_m_part f n w x) ∙ norm1-grid f n _

-- ---- sums of squares

-- the sum of the squares of a table's numbers
pub squares_tab : (f : Format) (k : ℕ) (g : ℕ → Float) → sum_of_squares f k (tab k g) ≡ dot f k g g
unfolding sum_of_squares
squares_tab f k g = dot_cong f k (item (tab k g)) (item (tab k g)) g g (λ i h. get_or-tab k g i nan h) (λ i h. get_or-tab k g i nan h)

pub squares_part : (f : Format) (k : ℕ) (w : List Float) (x : ℕ) → sum_of_squares f k (part w x k) ≡ dot f k (λ i. item w (x + i)) (λ i. item w (x + i))
unfolding part
squares_part f k w x = squares_tab f k (λ i. item w (x + i))

-- ---- the trace

pub trace_part : (f : Format) (n : ℕ) (w : List Float) (x : ℕ) → trace f n (part w x (n * n)) ≡ sum f n (λ i. item w (x + (i * n + i)))
unfolding trace
trace_part f n w x = sum_cong f n _ _ (λ i h. at_part w x n n i i h h)
