-- `sylvester_rows` meets its contract, by the loop over the rows of the blocks. Assumes nothing.
use Prim.Native.Nat.{◌*◌}
use Rattle.functions_definitions.specs.Derivatives.{sylvester_entry}
use Rattle.arithmetic_matrices.specs.Kernels.{block_row}
use Rattle.arithmetic_matrices.proofs.FilledLaws.{Filled}
use Rattle.functions_root_derivatives.specs.Kernels.{second_of}
use Rattle.functions_root_derivatives.proofs.sylvester.sylvester_rows.Given as goal

abbrev pub invariant-loop-r : goal.invariant-loop-r
invariant-loop-r g l = Filled (g.T.Real.floats l.initial.out) l.y l.n (l.n * l.n) (block_row l.n (sylvester_entry g.T.Real.format l.n (g.T.Real.floats l.s) (second_of l.transposed l.n (g.T.Real.floats l.s))) l.p) l.z (g.T.Real.floats l.out) l.r
