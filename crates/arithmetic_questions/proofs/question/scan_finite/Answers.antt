-- `scan_finite` meets its contract, by the loops over the rows and columns (`FiniteBefore`). Assumes nothing.
use Prim.Native.Nat.{◌+◌, ◌*◌, ◌<◌}
use mathlib.Core.Path.{sym, ap, ◌∙◌}
use lib.Ieee.Scale.{finite}
use lib.ListN.{length}
use Rattle.arithmetic_questions.proofs.QuestionLaws.{finite_inside, finite_end, finite_at}
use Rattle.arithmetic_questions.proofs.question.scan_finite.Goals as goal

pub returns-then-not-is_finite : goal.returns-then-not-is_finite
returns-then-not-is_finite g c =
    let laws = g.met.T.Real in
    let (row, before) = c.loop-j.invariant in
    let column = c.loop-j-test.true in
    let inside : c.loop-i.i * c.args.columns + c.loop-j.j < length (g.T.Real.floats c.args.a.now) = finite_inside before row column in
    let entry = laws.item_law _ _ _ c.index-a-k.is (rw (laws.length_law c.args.a.now) at inside) in
    finite_at before row column (ap finite (sym entry) ∙ sym c.is_finite.ensures ∙ c.if-not-is_finite.true)

pub returns : goal.returns
returns g c = search finite_end
