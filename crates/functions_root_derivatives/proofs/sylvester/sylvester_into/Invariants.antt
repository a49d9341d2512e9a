-- `sylvester_into` meets its contract, by the loop over the rows of blocks. Assumes nothing.

use Rattle.functions_definitions.specs.Derivatives.{sylvester_entry}
use Rattle.arithmetic_matrices.proofs.FilledLaws.{Blocks}
use Rattle.functions_root_derivatives.specs.Kernels.{second_of}
use Rattle.functions_root_derivatives.proofs.sylvester.sylvester_into.Given as goal

abbrev pub invariant-loop-p : goal.invariant-loop-p
invariant-loop-p g l = Blocks (g.T.Real.floats l.initial.out) l.n l.n l.n l.n (sylvester_entry g.T.Real.format l.n (g.T.Real.floats l.s) (second_of l.transposed l.n (g.T.Real.floats l.s))) l.y (g.T.Real.floats l.out) l.p
