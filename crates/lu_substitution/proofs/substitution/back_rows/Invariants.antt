-- `back_rows` meets its contract, by the steps over the rows from the last. Assumes nothing.
use Rattle.lu_substitution.proofs.SubstitutionLaws.{Steps, backed}
use Rattle.lu_substitution.proofs.substitution.back_rows.Given as goal

abbrev pub invariant-loop-k : goal.invariant-loop-k
invariant-loop-k g l = Steps (backed g.T.Real.format l.n l.m (g.T.Real.floats l.f) (g.T.Real.floats l.initial.x)) l.n (g.T.Real.floats l.x) l.k
