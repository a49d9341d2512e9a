-- `write_digits` meets its contract. Assumes nothing.
use Prim.Native.Nat.{◌%◌}
use mathlib.Core.Path.{◌≡◌, ◌∙◌}
use native.Mathlib.Omega.{arith}
use Rattle.sheet_encoding.specs.Text.{hex_digits}
use Rattle.sheet_encoding.proofs.TextLaws.{digit_at, hex_step}
use Rattle.sheet_encoding.proofs.writing.write_digits.Goals as goal

pub loop-k-preserved : goal.loop-k-preserved
loop-k-preserved c =
    let l = c.loop-k in
    rw (digit_at (l.rest % 16) (omega arith)) (hex_step l.k l.rest l.part (omega arith) (omega arith) ∙ l.invariant)

pub returns : goal.returns
unfolding hex_digits
returns c =
    let l = c.loop-k in
    let z : l.k ≡ 0 = omega arith in
    rw z at l.invariant
