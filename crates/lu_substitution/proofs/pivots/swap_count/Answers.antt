-- `swap_count` meets its contract, by the steps over the pivots. Assumes nothing.
use mathlib.Core.Path.{refl}
use mathlib.Core.Bool.{true, false}
use native.Mathlib.Omega.{arith}
use lib.ListN.{get_or}
use borrow.Author.Tests.{eq-eqb, ne_eqb}
use Rattle.lu_factoring.specs.Solve.{swaps}
use Rattle.lu_factoring.proofs.SolveLaws.{swaps_turn}
use Rattle.lu_substitution.proofs.SubstitutionLaws.{steps_start, steps_turn, steps_end}
use Rattle.lu_substitution.proofs.pivots.swap_count.Goals as goal
use Rattle.lu_substitution.proofs.pivots.swap_count.Goals.{then-pivots-k, else-pivots-k}

pub loop-k-init : goal.loop-k-init
unfolding swaps
loop-k-init c = (omega arith, steps_start refl)

pub loop-k-preserved : goal.loop-k-preserved
loop-k-preserved c =
    let l = c.loop-k in
    let ps = c.args.pivots.now in
    let p = get_or ps l.k 0 in
    let h = c.loop-k-test.true in
    let one_more = swaps_turn ps l.k l.c c.if-pivots-k.c p l.invariant.1.value refl in
    elim c.if-pivots-k.branch [
      | then-pivots-k w ↦ (omega (arith, w.c-is), steps_turn l.invariant.1 h (one_more false (ne_eqb p l.k w.if-pivots-k.true) w.c-is))
      | else-pivots-k w ↦ (omega (arith, w.c-is), steps_turn l.invariant.1 h (one_more true (eq-eqb p l.k w.if-pivots-k.false) (omega (arith, w.c-is))))
    ]

pub returns : goal.returns
returns c = steps_end c.loop-k.invariant.1 c.loop-k-test.false
