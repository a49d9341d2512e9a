-- `determinant` meets its contract, by the steps down the diagonal. Assumes nothing.
use Rattle.lu_factoring.specs.Solve.{signed_product}
use Rattle.lu_substitution.proofs.SubstitutionLaws.{Steps}
use Rattle.lu_substitution.proofs.substitution.determinant.Given as goal

abbrev pub invariant-loop-k : goal.invariant-loop-k
invariant-loop-k g l = Steps (signed_product g.T.Real.format l.n (g.T.Real.floats l.f) (g.T.Real.float l.initial.d)) l.n (g.T.Real.float l.d) l.k
