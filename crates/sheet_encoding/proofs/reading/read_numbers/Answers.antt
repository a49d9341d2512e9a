-- `read_numbers` meets its contract. Assumes nothing.
use native.Mathlib.Omega.{arith}
use mathlib.Core.Path.{refl}
use lib.ListN.{length-set}
use lib.Ieee.{binary64}
use Rattle.arithmetic_matrices.proofs.PartLaws.{put-none}
use Rattle.sheet_encoding.proofs.BytesLaws.{read_more, read_all}
use Rattle.sheet_encoding.proofs.reading.read_numbers.Goals as goal

pub loop-i-init : goal.loop-i-init
loop-i-init c = (omega arith, refl, put-none _ 0 _)

pub loop-i-preserved : goal.loop-i-preserved
loop-i-preserved c =
    let l = c.loop-i in
    let a = c.args in
    (omega arith, simp length-set l.invariant.1, read_more binary64 a.s.now a.p a.m.now _ l.i _ l.invariant.2 c.read_number.ensures)

pub returns : goal.returns
returns c =
    let l = c.loop-i in
    let a = c.args in
    read_all binary64 a.s.now a.p a.m.now _ l.i l.invariant.2 (omega arith)
