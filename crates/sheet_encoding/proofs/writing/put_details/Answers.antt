-- `put_details` meets its contract. Assumes nothing.
use Rattle.sheet_encoding.specs.Text.{details_text}
use Rattle.sheet_encoding.proofs.WroteLaws.{wrote_more}
use Rattle.sheet_encoding.proofs.writing.put_details.Goals as goal

pub returns-clause-wrote : goal.returns-clause-wrote
unfolding details_text
returns-clause-wrote c = wrote_more (wrote_more c.put_detail-e.ensures.wrote c.put_detail-f.ensures.wrote) c.put_detail.ensures.wrote
