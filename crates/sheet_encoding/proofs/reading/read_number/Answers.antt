-- `read_number` meets its contract. Assumes nothing.
use mathlib.Core.Path.{ap, ◌∙◌}
use lib.Ieee.{binary64, of_bits}
use Rattle.sheet_encoding.specs.Bytes.{number_at}
use Rattle.sheet_encoding.proofs.reading.read_number.Goals as goal

pub returns : goal.returns
unfolding number_at
returns c = c.float_of.ensures ∙ ap (of_bits binary64) c.word.ensures.0
