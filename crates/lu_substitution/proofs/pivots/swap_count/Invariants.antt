-- `swap_count` meets its contract, by the steps over the pivots. Assumes nothing.
use Prim.Native.Nat.{◌≤◌}
use Rattle.lu_factoring.specs.Solve.{swaps}
use Rattle.lu_substitution.proofs.SubstitutionLaws.{Steps}
use Rattle.lu_substitution.proofs.pivots.swap_count.Given as goal

abbrev pub invariant-loop-k : goal.invariant-loop-k
invariant-loop-k l = (l.c ≤ l.k) × Steps (swaps l.pivots) l.n l.c l.k
