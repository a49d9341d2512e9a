-- `block_row` meets its contract, by the loop over the parts of the row. Assumes nothing.
use native.Mathlib.Nat.{add-zero, zero-mul}
use native.Mathlib.Omega.{arith}
use mathlib.Core.Path.{refl, ap, ◌∙◌}
use Rattle.arithmetic_matrices.specs.Matrix.{at}
use Rattle.arithmetic_matrices.specs.Product.{diagonal_entry}
use Rattle.arithmetic_matrices.proofs.MatrixLaws.{more_rows, row_end}
use Rattle.arithmetic_matrices.proofs.FilledLaws.{filled_start, filled_turn, parts_end}
use Rattle.functions_kronecker.proofs.block_row.Goals as goal

pub loop-j-init : goal.loop-j-init
loop-j-init g c = (rw (zero-mul, add-zero) refl, λ e h. filled_start)

pub loop-j-preserved : goal.loop-j-preserved
unfolding at
loop-j-preserved g c =
    let laws = g.met.T.Real in
    let low = c.loop-j-test.true in
    let s = laws.item_law _ _ _ c.index-a-i.is (omega arith) in
    let d = c.diagonal_entry.ensures ∙ ap (λ x. diagonal_entry x c.args.i c.loop-j.j) (ap g.T.Real.float c.ONE.ensures ∙ laws.one_law) in (
      omega (arith, c.loop-j.invariant.0, more_rows c.loop-j.j c.args.q),
      λ e h. filled_turn (c.loop-j.invariant.1 e h) low (c.block_part.ensures (e c.args.i c.loop-j.j c.args.k) (λ l x r few v p. h _ l _ _ x r low few s d v p)),
    )

pub returns : goal.returns
returns g c e h = parts_end e c.args.i c.args.k (c.loop-j.invariant.1 e h) c.loop-j-test.false

pub block_part-requires-clause-room : goal.block_part-requires-clause-room
block_part-requires-clause-room g c = (omega (arith, c.loop-j.invariant.0, row_end c.loop-j.j c.args.n c.args.q c.loop-j-test.true, c.requires.room.0, c.loop-j.auto.out), c.requires.room.2)

pub overflow_add-z : goal.overflow_add-z
overflow_add-z g c = omega (arith, c.loop-j.invariant.0, row_end c.loop-j.j c.args.n c.args.q c.loop-j-test.true, c.requires.room.0)
