-- `put_refused` meets its contract. Assumes nothing.
use native.Mathlib.Omega.{arith}
use Rattle.sheet_encoding.specs.Text.{refused_line}
use Rattle.sheet_encoding.proofs.WroteLaws.{wrote_more}
use Rattle.sheet_encoding.proofs.TextLaws.{length-decimal}
use Rattle.sheet_encoding.proofs.line.put_refused.Goals as goal

pub put_decimal-e-requires : goal.put_decimal-e-requires
put_decimal-e-requires c = omega (arith, length-decimal c.args.task)

pub put_word-f-requires : goal.put_word-f-requires
put_word-f-requires c = omega (arith, length-decimal c.args.task, c.put_decimal-e.ensures.past)

pub put_details-g-requires : goal.put_details-g-requires
put_details-g-requires c = omega (arith, length-decimal c.args.task, c.put_decimal-e.ensures.past, c.put_decimal-e.auto.out)

pub put_byte-requires : goal.put_byte-requires
put_byte-requires c = omega (arith, length-decimal c.args.task, c.put_decimal-e.ensures.past, c.put_decimal-e.auto.out, c.put_word-f.ensures.value)

pub returns : goal.returns
unfolding refused_line
returns c =
    let u = c.put_decimal-e.ensures in
    let v = c.put_word-f.ensures in
    let w = c.put_details-g.ensures in
    let x = c.put_byte.ensures in
    record {
      wrote = wrote_more (wrote_more (wrote_more u v.wrote) w.wrote) x;
      upper_bound = omega (arith, length-decimal c.args.task, u.past, v.value, w.upper_bound, x.past);
    }
