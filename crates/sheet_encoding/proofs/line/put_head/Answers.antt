-- `put_head` meets its contract. Assumes nothing.
use native.Mathlib.Omega.{arith}
use Rattle.sheet_encoding.specs.Text.{done_head}
use Rattle.sheet_encoding.proofs.WroteLaws.{wrote_more}
use Rattle.sheet_encoding.proofs.TextLaws.{length-decimal, length_decimal_few}
use Rattle.sheet_encoding.proofs.line.put_head.Goals as goal

pub put_decimal-e-requires : goal.put_decimal-e-requires
put_decimal-e-requires c = omega (arith, length-decimal c.args.task)

pub put_word-f-requires : goal.put_word-f-requires
put_word-f-requires c = omega (arith, length-decimal c.args.task, c.put_decimal-e.ensures.past)

pub put_detail-requires : goal.put_detail-requires
put_detail-requires c = omega (arith, length-decimal c.args.task, c.put_decimal-e.ensures.past, c.put_decimal-e.auto.out)

pub returns : goal.returns
unfolding done_head
returns c =
    let u = c.put_decimal-e.ensures in
    let v = c.put_word-f.ensures in
    let w = c.put_detail.ensures in
    let a = c.args in
    record {
      wrote = wrote_more (wrote_more u v.wrote) w.wrote;
      upper_bound = omega (arith, length_decimal_few 1 a.task (omega arith), length_decimal_few 1 a.halvings (omega arith), u.past, v.value, w.wrote.past);
    }
