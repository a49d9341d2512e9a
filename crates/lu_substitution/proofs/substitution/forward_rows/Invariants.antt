-- `forward_rows` meets its contract, by the steps over the rows from the first. Assumes nothing.
use Rattle.lu_substitution.proofs.SubstitutionLaws.{Steps, forwarded}
use Rattle.lu_substitution.proofs.substitution.forward_rows.Given as goal

abbrev pub invariant-loop-i : goal.invariant-loop-i
invariant-loop-i g l = Steps (forwarded g.T.Real.format l.n l.m (g.T.Real.floats l.f) (g.T.Real.floats l.initial.x)) l.n (g.T.Real.floats l.x) l.i
