-- `put_word` meets its contract. Assumes nothing.
use Rattle.sheet_encoding.proofs.WroteLaws.{wrote_more}
use Rattle.sheet_encoding.proofs.writing.put_word.Goals as goal

pub returns-clause-wrote : goal.returns-clause-wrote
returns-clause-wrote c = wrote_more c.put_byte-e.ensures c.put_bytes.ensures
