-- `put_tasks` meets its contract. Assumes nothing.
use Rattle.sheet_encoding.proofs.WroteLaws.{wrote_more}
use Rattle.sheet_writing.proofs.bytes.put_tasks.Goals as goal

pub returns : goal.returns
returns c = wrote_more c.put_byte-e.ensures c.put_bytes.ensures
