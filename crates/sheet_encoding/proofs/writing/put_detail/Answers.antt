-- `put_detail` meets its contract. Assumes nothing.
use native.Mathlib.Omega.{arith}
use Rattle.sheet_encoding.proofs.WroteLaws.{wrote_more}
use Rattle.sheet_encoding.proofs.TextLaws.{length-decimal}
use Rattle.sheet_encoding.proofs.writing.put_detail.Goals as goal

pub put_decimal-requires : goal.put_decimal-requires
put_decimal-requires c = omega (arith, length-decimal c.args.n, c.put_byte-e.ensures.past)

pub returns : goal.returns
returns c =
    let w = c.put_byte-e.ensures in
    let v = c.put_decimal.ensures in
    record {
      wrote = wrote_more w v;
      upper_bound = omega (arith, w.past, v.past, length-decimal c.args.n);
    }
