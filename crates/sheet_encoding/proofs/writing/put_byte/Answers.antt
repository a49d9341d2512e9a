-- `put_byte` meets its contract. Assumes nothing.
use native.Mathlib.Omega.{arith}
use Rattle.sheet_encoding.proofs.WroteLaws.{wrote_byte}
use Rattle.sheet_encoding.proofs.writing.put_byte.Goals as goal

pub returns : goal.returns
returns c = let a = c.args in wrote_byte a.out.now a.at a.b (omega arith)
