-- `swap_parts` meets its contract, by the loop over the pairs of numbers (`Swapped` of RowLaws). Assumes nothing.
use native.Mathlib.Omega.{arith}
use lib.ListN.{length-set}
use Rattle.lu_factoring.proofs.RowLaws.{swapped_start, seen_swapped, swapped_end}
use Rattle.lu_factoring.proofs.swap.swap_parts.Goals as goal

pub loop-j-preserved : goal.loop-j-preserved
loop-j-preserved g c =
    let laws = g.met.T.Real in
    let h = c.loop-j-test.true in
    seen_swapped g.T.Real.float g.T.Real.floats _ _ _ laws.set_law c.loop-j.invariant c.requires.2 h
    (laws.item_law _ _ _ c.index-w-x.is (omega arith)) (laws.item_law _ _ _ c.index-w-y.is (omega arith))

pub loop-j-init : goal.loop-j-init
loop-j-init g c = swapped_start _ _ _ _

pub bounds-w-y-in-loop-j : goal.bounds-w-y-in-loop-j
bounds-w-y-in-loop-j g c = simp length-set (omega arith)

pub returns : goal.returns
returns g c = search swapped_end
