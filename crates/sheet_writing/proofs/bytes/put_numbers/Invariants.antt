-- `put_numbers` meets its contract. Assumes nothing.
use Prim.Native.Nat.{◌+◌, ◌*◌}
use mathlib.Core.Path.{◌≡◌}
use lib.ListN.{take}
use Rattle.sheet_encoding.specs.Kernels.{Wrote}
use Rattle.sheet_writing.specs.Sections.{number_bytes}
use Rattle.sheet_writing.proofs.bytes.put_numbers.Given as goal

abbrev pub invariant-loop-x : goal.invariant-loop-x
invariant-loop-x l = (l.e ≡ l.at + 8 * l.x-index) × Wrote l.initial.out l.at (number_bytes (take l.x-index l.m)) l.out l.e
