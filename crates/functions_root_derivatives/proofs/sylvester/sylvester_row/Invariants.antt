-- `sylvester_row` meets its contract, by the loop over the parts of the row. Assumes nothing.

use Rattle.functions_definitions.specs.Derivatives.{sylvester_entry}
use Rattle.arithmetic_matrices.proofs.FilledLaws.{Filled}
use Rattle.functions_root_derivatives.specs.Kernels.{second_of}
use Rattle.functions_root_derivatives.proofs.sylvester.sylvester_row.Given as goal

abbrev pub invariant-loop-q : goal.invariant-loop-q
invariant-loop-q g l = Filled (g.T.Real.floats l.initial.out) l.y l.n l.n (λ c. sylvester_entry g.T.Real.format l.n (g.T.Real.floats l.s) (second_of l.transposed l.n (g.T.Real.floats l.s)) l.p c l.r) l.z (g.T.Real.floats l.out) l.q
