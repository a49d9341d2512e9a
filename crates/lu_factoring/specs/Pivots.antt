-- The smallest pivot that LU accepted: how near a matrix came to refusal. Definitions only.
use Rattle.std.specs.Prelude.{ℕ, List, Float}
use Rattle.std.specs.Float.{Format}
use Rattle.arithmetic_floats.specs.Float.{+infinity, magnitude}
use Rattle.arithmetic_matrices.specs.Matrix.{at}
use Rattle.arithmetic_matrices.specs.Norm.{smallest}
use Rattle.lu_factoring.specs.Lu.{lu_at, lu_pivot, lu_outcome}
use Rattle.lu_factoring.specs.Solve.{stand_in}

-- the magnitude of the pivot of column k
unfoldable pub pivot_size : Format → ℕ → List Float → ℕ → Float
pivot_size f n a k = magnitude (at n (lu_at f n a k) (lu_pivot f n a k) k)

-- the smallest pivot of the n by n matrix a; plus infinity where LU refuses a
unfoldable pub smallest_pivot : Format → ℕ → List Float → Float
unfolding smallest pivot_size
smallest_pivot f n a = stand_in (lu_outcome f n a) (smallest n (pivot_size f n a)) +infinity
