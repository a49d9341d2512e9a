-- `skip_past` meets its contract. Assumes nothing.
use Rattle.vectors_recorded.proofs.reader.Reader.skip_past.Goals as goal

pub returns : goal.returns
returns c = record {
  is_end = record { read = c.split_after.result.0.now; parts = c.split_after.ensures.parts };
  past = c.split_after.ensures.past;
}
