-- `put_sheet` meets its contract. Assumes nothing.
use Rattle.sheet_encoding.proofs.WroteLaws.{wrote_more}
use Rattle.sheet_writing.specs.Sections.{sheet_bytes}
use Rattle.sheet_writing.proofs.bytes.put_sheet.Goals as goal

pub returns-clause-wrote : goal.returns-clause-wrote
unfolding sheet_bytes
returns-clause-wrote c = wrote_more (wrote_more (wrote_more c.put_section-d.ensures.wrote c.put_section-e.ensures.wrote) c.put_section-t.ensures.wrote) c.put_tasks.ensures
