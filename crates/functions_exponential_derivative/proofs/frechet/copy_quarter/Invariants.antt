-- `copy_quarter` meets its contract. The invariant: the rows of `out` below i are those of the quarter. Assumes nothing.
use Prim.Native.Nat.{◌*◌, ◌≤◌}
use mathlib.Core.Path.{◌≡◌}
use lib.ListN.{length}
use Rattle.arithmetic_matrices.specs.Kernels.{rows_to}
use Rattle.functions_exponential_derivative.specs.Kernels.{quarter_row}
use Rattle.functions_exponential_derivative.proofs.frechet.copy_quarter.Given as goal

abbrev pub invariant-loop-i : goal.invariant-loop-i
invariant-loop-i g l = (l.i ≤ l.n) × (length l.out ≡ l.n * l.n) × ((g.T.Real.floats l.out) ≡ rows_to l.n (quarter_row l.n l.c (g.T.Real.floats l.b)) (g.T.Real.floats l.initial.out) l.i)
