-- `block_rows` meets its contract, by the loop over the rows of the blocks. Assumes nothing.
use Prim.Native.Nat.{◌*◌}
use native.Mathlib.Nat.{add-zero, zero-mul}
use native.Mathlib.Omega.{arith}
use Rattle.arithmetic_matrices.proofs.MatrixLaws.{more_rows}
use Rattle.arithmetic_matrices.proofs.FilledLaws.{filled_start, filled_end}
use Rattle.functions_kronecker.proofs.KroneckerLaws.{filled_next}
use Rattle.functions_kronecker.proofs.block_rows.Goals as goal

pub loop-k-init : goal.loop-k-init
loop-k-init g c e h = rw (zero-mul, add-zero) filled_start

pub loop-k-preserved : goal.loop-k-preserved
loop-k-preserved g c e h =
    let low = c.loop-k-test.true in
    filled_next (c.loop-k.invariant e h) low (c.block_row.ensures e (h _ low)) (omega (arith, more_rows c.loop-k.k (c.args.n * c.args.q)))

pub returns : goal.returns
returns g c e h = filled_end (c.loop-k.invariant e h) c.loop-k-test.false
