-- `blocks_into` meets its contract, by the loop over the rows of blocks. Assumes nothing.
use Prim.Native.Nat.{◌*◌}
use native.Mathlib.Nat.{zero-mul, mul-le-mul}
use native.Mathlib.Omega.{arith}
use mathlib.Core.Path.{◌∙◌}
use Rattle.arithmetic_matrices.proofs.MatrixLaws.{more_rows, row_end}
use Rattle.arithmetic_matrices.proofs.FilledLaws.{blocks_start, blocks_end}
use Rattle.functions_kronecker.proofs.KroneckerLaws.{blocks_next, blocks_inside}
use Rattle.functions_kronecker.proofs.blocks_into.Goals as goal

pub overflow_mul-size-2 : goal.overflow_mul-size-2
overflow_mul-size-2 g c = omega (arith, mul-le-mul c.requires.few.0 c.requires.few.2)

pub overflow_mul-i : goal.overflow_mul-i
overflow_mul-i g c =
    let a = c.args in
    let few = c.requires.few in
    omega (arith, blocks_inside c.loop-i.i a.m a.p (a.n * a.q) c.loop-i-test.true, mul-le-mul few.1 few.2)

pub block_rows-requires-clause-room : goal.block_rows-requires-clause-room
block_rows-requires-clause-room g c =
    let a = c.args in
    let few = c.requires.few in
    (few.2, omega (arith, blocks_inside c.loop-i.i a.m a.p (a.n * a.q) c.loop-i-test.true, few.3, c.loop-i.auto.out), omega (arith, row_end c.loop-i.i a.m a.n c.loop-i-test.true, few.4), few.5)

pub loop-i-init : goal.loop-i-init
loop-i-init g c e h = rw zero-mul blocks_start

pub loop-i-preserved : goal.loop-i-preserved
loop-i-preserved g c e h =
    let low = c.loop-i-test.true in
    blocks_next (c.loop-i.invariant e h) low (c.block_rows.ensures e (λ k few. h _ k low few)) (more_rows c.loop-i.i (c.args.p * (c.args.n * c.args.q)))

pub returns : goal.returns
returns g c e h = blocks_end (c.loop-i.invariant e h) c.loop-i-test.false (g.met.T.Real.length_law c.args.out.now ∙ c.requires.few.3)
