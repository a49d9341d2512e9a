-- `block_part` meets its contract, by the loop of stores. Assumes nothing.
use Prim.Native.Nat.{ℕ, ◌<◌}
use mathlib.Core.Path.{◌≡◌}
use lib.Ieee.{Float}
use Rattle.arithmetic_matrices.specs.Matrix.{at}
use Rattle.arithmetic_matrices.proofs.LoopLaws.{Stored}
use Rattle.functions_kronecker.proofs.block_part.Given as goal

abbrev pub invariant-loop-l : goal.invariant-loop-l
invariant-loop-l g l =
    (e : ℕ → Float) → ((c : ℕ) (x r : _) → c < l.q → g.T.Real.float x ≡ at l.q (g.T.Real.floats l.b) l.k c → goal.F-post g l.entry l.s l.d x l.k c r → g.T.Real.float r ≡ e c)
    → Stored l.y l.q e (g.T.Real.floats l.initial.out) (g.T.Real.floats l.out) l.l
