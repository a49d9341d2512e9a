-- `read_numbers` meets its contract. Assumes nothing.
use Prim.Native.Nat.{◌≤◌}
use mathlib.Core.Path.{◌≡◌}
use lib.ListN.{length}
use lib.Ieee.{binary64}
use Rattle.arithmetic_matrices.specs.Matrix.{tab, put}
use Rattle.sheet_encoding.proofs.BytesLaws.{entry_at}
use Rattle.sheet_encoding.proofs.reading.read_numbers.Given as goal

abbrev pub invariant-loop-i : goal.invariant-loop-i
invariant-loop-i l = (l.i ≤ length l.initial.m) × (length l.m ≡ length l.initial.m) × (l.m ≡ put l.initial.m 0 (tab l.i (entry_at binary64 l.s l.p)))
