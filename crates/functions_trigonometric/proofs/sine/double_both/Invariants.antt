-- `double_both` meets its contract. The invariant: the first i doublings are done. Assumes nothing.
use Prim.Native.Nat.{◌≤◌}
use Rattle.functions_trigonometric.specs.Kernels.{BothAfter}
use Rattle.functions_trigonometric.proofs.sine.double_both.Given as goal

abbrev pub invariant-loop-i : goal.invariant-loop-i
invariant-loop-i g l = (l.i ≤ l.s) × BothAfter g.T.Real.format l.n (g.T.Real.floats l.initial.w) l.i (g.T.Real.floats l.w)
