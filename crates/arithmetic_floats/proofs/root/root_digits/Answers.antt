-- `root_digits` meets its contract. What was read of the radicand is root * root + rem, with rem at most 2 * root, so root is the whole part of its root.
-- Assumes nothing.
use Rattle.std.proofs.Common.{◌≡◌, ℕ, ◌+◌, ◌*◌, ◌%◌, ◌^◌, ◌<◌, ◌≤◌, sym, subst, subst₂, lt_of_lt_of_le, arith, pow_mono}
use Rattle.arithmetic_floats.proofs.Squares.{Reached, digit_one, digit_zero, is_whole_part}
use Rattle.arithmetic_floats.proofs.root.root_digits.Goals as goal
use Rattle.arithmetic_floats.proofs.root.root_digits.Goals.{then-trial-next, else-trial-next}

root-lt : (c : goal.In-loop-i) → c.loop-i.root < 2 ^ 60
root-lt c = lt_of_lt_of_le c.loop-i.invariant.1.0 (pow_mono {j = 60} (omega arith))

pub overflow_mul-next : goal.overflow_mul-next
overflow_mul-next c = omega (arith, root-lt (search))

pub overflow_add-next : goal.overflow_add-next
overflow_add-next c = omega (arith, root-lt (search))

pub overflow_mul-trial : goal.overflow_mul-trial
overflow_mul-trial c = omega (arith, root-lt (search))

pub overflow_add-trial : goal.overflow_add-trial
overflow_add-trial c = omega (arith, root-lt (search))

pub overflow_mul-root : goal.overflow_mul-root
overflow_mul-root c = omega (arith, root-lt (search))

pub overflow_add-root : goal.overflow_add-root
overflow_add-root c = omega (arith, root-lt (search))

pub overflow_mul-root-else-trial-next : goal.overflow_mul-root-else-trial-next
overflow_mul-root-else-trial-next c = omega (arith, root-lt (search))

pub loop-i-preserved : goal.loop-i-preserved
loop-i-preserved c =
    let l = c.loop-i in
    let m = c.args.radicand in
    let P : ℕ → ℕ → Type 0 = λ r s. Reached m (l.i + 1) (l.rest * 4 % 2 ^ 64) r s in (
      omega arith,
      elim c.if-trial-next.branch [
        | then-trial-next w ↦ subst₂ P (sym w.root-is) (sym w.rem-is) (digit_one m l.i l.rest l.root l.rem l.invariant.1 w.if-trial-next.true)
        | else-trial-next w ↦ subst₂ P (sym w.root-is) (sym w.rem-is) (digit_zero m l.i l.rest l.root l.rem l.invariant.1 w.if-trial-next.false)
      ],
    )

pub returns : goal.returns
returns c =
    let l = c.loop-i in
    let e : l.i ≡ c.args.steps = omega arith in
    subst (λ (n : ℕ). (l.root * l.root * 2 ^ 64 ≤ c.args.radicand * 4 ^ n) × (c.args.radicand * 4 ^ n < (l.root + 1) * (l.root + 1) * 2 ^ 64)) e
    (is_whole_part c.args.radicand l.i l.rest l.root l.rem l.invariant.1)
