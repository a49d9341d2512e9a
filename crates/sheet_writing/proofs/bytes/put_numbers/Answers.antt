-- `put_numbers` meets its contract. Assumes nothing.
use native.Mathlib.Omega.{arith}
use Rattle.sheet_encoding.proofs.WroteLaws.{wrote_none, wrote_more}
use Rattle.sheet_writing.proofs.WordLaws.{number_bytes_none, number_bytes_more}
use Rattle.sheet_writing.proofs.bytes.put_numbers.Goals as goal

pub loop-x-init : goal.loop-x-init
loop-x-init c = (omega arith, rw number_bytes_none (wrote_none _ _ (omega arith)))

pub loop-x-preserved : goal.loop-x-preserved
loop-x-preserved c =
    let l = c.loop-x in
    let p = c.put_bits-e.ensures in
    (omega (arith, p.value), rw (number_bytes_more c.args.m.now l.x-index (omega arith)) (wrote_more l.invariant.1 p.wrote))
