-- `sylvester_part` meets its contract, by the loop of stores. Assumes nothing.

use Rattle.arithmetic_floats.specs.Float.{+zero}
use Rattle.arithmetic_matrices.specs.Matrix.{at}
use Rattle.functions_definitions.specs.Derivatives.{added_where}
use Rattle.arithmetic_matrices.proofs.LoopLaws.{Stored}
use Rattle.functions_root_derivatives.proofs.sylvester.sylvester_part.Given as goal

abbrev pub invariant-loop-c : goal.invariant-loop-c
invariant-loop-c g l = Stored l.y l.n (λ j. added_where g.T.Real.format (added_where g.T.Real.format +zero l.p l.q (at l.n (g.T.Real.floats l.s) l.r j)) l.r j (g.T.Real.float l.v)) (g.T.Real.floats l.initial.out) (g.T.Real.floats l.out) l.c
