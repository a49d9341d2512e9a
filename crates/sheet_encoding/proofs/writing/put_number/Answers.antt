-- `put_number` meets its contract. Assumes nothing.
use Rattle.sheet_encoding.specs.Text.{number_text}
use Rattle.sheet_encoding.proofs.writing.put_number.Goals as goal

pub returns : goal.returns
unfolding number_text
returns c = rw (← c.bits_of.ensures) c.put_hex.ensures
