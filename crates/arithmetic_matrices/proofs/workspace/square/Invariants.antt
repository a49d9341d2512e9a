-- `square` meets its contract. The invariant: so many squarings are done. Assumes nothing.
use Prim.Native.Nat.{◌≤◌}
use Rattle.arithmetic_matrices.specs.Kernels.{Squared}
use Rattle.arithmetic_matrices.proofs.workspace.square.Given as goal

abbrev pub invariant-loop-done : goal.invariant-loop-done
invariant-loop-done g l = (l.done ≤ l.s) × Squared g.T.Real.format l.n (g.T.Real.floats l.initial.w) l.a l.t l.done (g.T.Real.floats l.w)
