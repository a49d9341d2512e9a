-- `put_bits` meets its contract. Assumes nothing.
use Rattle.sheet_writing.proofs.WordLaws.{le_bytes}
use Rattle.sheet_writing.proofs.bytes.put_bits.Goals as goal

pub returns-clause-wrote : goal.returns-clause-wrote
returns-clause-wrote c = rw (← le_bytes c.args.v, ← c.to_le_bytes.ensures) c.put_bytes.ensures
