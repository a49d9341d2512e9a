-- `permute_rows` meets its contract, by the steps over the swaps. Assumes nothing.
use Rattle.lu_substitution.proofs.SubstitutionLaws.{Steps, swapped}
use Rattle.lu_substitution.proofs.substitution.permute_rows.Given as goal

abbrev pub invariant-loop-k : goal.invariant-loop-k
invariant-loop-k g l = Steps (swapped l.n l.m l.pivots (g.T.Real.floats l.initial.x)) l.n (g.T.Real.floats l.x) l.k
