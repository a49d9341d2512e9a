-- `put_entry` meets its contract. Assumes nothing.
use native.Mathlib.Omega.{arith}
use lib.Ieee.{binary64}
use Rattle.sheet_encoding.proofs.WroteLaws.{wrote_more}
use Rattle.sheet_encoding.proofs.TextLaws.{length-number_text}
use Rattle.sheet_encoding.proofs.writing.put_entry.Goals as goal

pub returns : goal.returns
returns c =
    let w = c.put_byte-e.ensures in
    let v = c.put_number.ensures in
    record {
      wrote = wrote_more w v;
      value = omega (arith, w.past, v.past, length-number_text binary64 c.args.x);
    }
