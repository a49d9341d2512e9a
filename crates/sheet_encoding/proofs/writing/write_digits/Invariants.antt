-- `write_digits` meets its contract: the digits from k on stand. Assumes nothing.
use mathlib.Core.Path.{◌≡◌}
use mathlib.Core.List.{◌++◌}
use lib.ListN.{length, drop}
use Rattle.sheet_encoding.specs.Text.{hex_digits}
use Rattle.sheet_encoding.proofs.writing.write_digits.Given as goal

abbrev pub invariant-loop-k : goal.invariant-loop-k
invariant-loop-k l = hex_digits l.k l.rest ++ drop l.k l.part ≡ hex_digits (length l.initial.part) l.n
