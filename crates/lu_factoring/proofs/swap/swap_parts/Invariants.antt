-- `swap_parts` meets its contract, by the loop over the pairs of numbers (`Swapped` of RowLaws). Assumes nothing.
use Rattle.lu_factoring.proofs.RowLaws.{Swapped}
use Rattle.lu_factoring.proofs.swap.swap_parts.Given as goal

abbrev pub invariant-loop-j : goal.invariant-loop-j
invariant-loop-j g l = Swapped l.x l.y l.m (g.T.Real.floats l.initial.w) (g.T.Real.floats l.w) l.j
