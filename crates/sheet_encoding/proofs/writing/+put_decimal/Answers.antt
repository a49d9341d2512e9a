-- `put_decimal` meets its contract. Assumes nothing.
use mathlib.Core.Path.{ap}
use native.Mathlib.Omega.{arith}
use lib.ListN.{length}
use Rattle.sheet_encoding.proofs.TextLaws.{decimal_one, decimal_step, length_decimal_more}
use Rattle.sheet_encoding.proofs.writing.+put_decimal.Goals as goal

pub put_byte-requires : goal.put_byte-requires
put_byte-requires t c = omega (arith, ap length (decimal_one c.args.n (omega arith)))

pub returns-then-n-lt10 : goal.returns-then-n-lt10
returns-then-n-lt10 t c = rw (decimal_one c.args.n (omega arith), ← c.glyph.ensures) c.put_byte.ensures

pub put_decimal-e-requires : goal.put_decimal-e-requires
put_decimal-e-requires t c = (omega arith, omega (arith, length_decimal_more c.args.n (omega arith) (omega arith)))

pub put_byte-requires-2 : goal.put_byte-requires-2
put_byte-requires-2 t c =
    let a = c.args in
    omega (arith, c.put_decimal-e.ensures.past, c.put_decimal-e.auto.out, length_decimal_more a.n (omega arith) (omega arith))

pub returns : goal.returns
returns t c =
    decimal_step c.args.n (omega arith) (omega arith) c.put_decimal-e.ensures (rw c.glyph-2.ensures at c.put_byte-2.ensures)
