-- `put_numbers` meets its contract. Assumes nothing.
use Prim.Native.Nat.{◌+◌, ◌*◌}
use mathlib.Core.Path.{◌≡◌}
use lib.ListN.{take}
use lib.Ieee.{binary64}
use Rattle.sheet_encoding.specs.Kernels.{Wrote}
use Rattle.sheet_encoding.specs.Text.{numbers_text}
use Rattle.sheet_encoding.proofs.writing.put_numbers.Given as goal

abbrev pub invariant-loop-x : goal.invariant-loop-x
invariant-loop-x l = (l.e ≡ l.at + 17 * l.x-index) × Wrote l.initial.out l.at (numbers_text binary64 (take l.x-index l.m)) l.out l.e
