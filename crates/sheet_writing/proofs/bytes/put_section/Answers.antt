-- `put_section` meets its contract. Assumes nothing.
use Rattle.sheet_encoding.proofs.WroteLaws.{wrote_more}
use Rattle.sheet_writing.proofs.bytes.put_section.Goals as goal

pub returns-clause-wrote : goal.returns-clause-wrote
returns-clause-wrote c = wrote_more c.put_byte-e.ensures c.put_numbers.ensures.wrote
