-- `root_digits` meets its contract. What was read of the radicand is root * root + rem, with rem at most 2 * root, so root is the whole part of its root.
-- Assumes nothing.
use Rattle.std.proofs.Common.{◌≤◌}
use Rattle.arithmetic_floats.proofs.Squares.{Reached}
use Rattle.arithmetic_floats.proofs.root.root_digits.Given as goal

abbrev pub invariant-loop-i : goal.invariant-loop-i
invariant-loop-i l = (l.i ≤ l.steps) × Reached l.radicand l.i l.rest l.root l.rem
