-- `quarter_row` meets its contract. The invariant: row i of `out` has its new entries in the columns below j. Assumes nothing.
use Prim.Native.Nat.{◌≤◌}
use mathlib.Core.Path.{◌≡◌}
use Rattle.arithmetic_matrices.specs.Kernels.{row_to}
use Rattle.functions_exponential_derivative.specs.Kernels.{quarter_row}
use Rattle.functions_exponential_derivative.proofs.frechet.quarter_row.Given as goal

abbrev pub invariant-loop-j : goal.invariant-loop-j
invariant-loop-j g l = (l.j ≤ l.n) × ((g.T.Real.floats l.out) ≡ row_to l.n l.i (quarter_row l.n l.c (g.T.Real.floats l.b) l.i) (g.T.Real.floats l.initial.out) l.j)
