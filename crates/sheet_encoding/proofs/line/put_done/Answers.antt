-- `put_done` meets its contract. Assumes nothing.
use native.Mathlib.Omega.{arith}
use lib.Ieee.{binary64}
use Rattle.sheet_encoding.proofs.WroteLaws.{wrote_more}
use Rattle.sheet_encoding.proofs.LineLaws.{done_line_lem}
use Rattle.sheet_encoding.proofs.line.put_done.Goals as goal

pub returns : goal.returns
returns c =
    let a = c.args in
    let h = c.put_head-e.ensures in
    let f = c.put_numbers-f.ensures in
    let g = c.put_numbers-g.ensures in
    let z = c.put_entry-z.ensures in
    let n = c.put_byte.ensures in
    record {
      wrote = rw (done_line_lem binary64 a.task a.halvings a.first.now a.second.now a.smallest) (wrote_more (wrote_more (wrote_more (wrote_more h.wrote f.wrote) g.wrote) z.wrote) n);
      short = omega (arith, h.upper_bound, f.value, g.value, z.value, n.past);
    }
