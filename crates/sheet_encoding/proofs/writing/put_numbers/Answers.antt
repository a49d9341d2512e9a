-- `put_numbers` meets its contract. Assumes nothing.
use native.Mathlib.Omega.{arith}
use lib.Ieee.{binary64}
use Rattle.sheet_encoding.proofs.WroteLaws.{wrote_none, wrote_more}
use Rattle.sheet_encoding.proofs.TextLaws.{numbers_text_none, numbers_text_more}
use Rattle.sheet_encoding.proofs.writing.put_numbers.Goals as goal

pub loop-x-init : goal.loop-x-init
loop-x-init c = (omega arith, rw numbers_text_none (wrote_none _ _ (omega arith)))

pub loop-x-preserved : goal.loop-x-preserved
loop-x-preserved c =
    let l = c.loop-x in
    let p = c.put_entry-e.ensures in
    (omega (arith, p.value), rw (numbers_text_more binary64 c.args.m.now l.x-index (omega arith)) (wrote_more l.invariant.1 p.wrote))
