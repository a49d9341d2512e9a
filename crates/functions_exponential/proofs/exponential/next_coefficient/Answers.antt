-- `next_coefficient` meets its contract: the two numbers are small enough to be floats. Assumes nothing.
use Prim.Native.Nat.{ℕ, suc, ◌+◌, ◌-◌, ◌*◌, ◌≤◌, ◌<◌}
use mathlib.Core.Path.{◌≡◌, ap, ◌∙◌}
use native.Mathlib.Nat.{mul-le-mul}
use native.Mathlib.Numerals.{add-one}
use native.Mathlib.Omega.{arith}
use lib.IntN.{pos}
use lib.Ieee.{div, mul, of_int}
use Rattle.functions_definitions.specs.Exponential.{next_coefficient}
use Rattle.functions_exponential.proofs.ExponentialLaws.{counts}
use Rattle.functions_exponential.proofs.exponential.next_coefficient.Goals as goal

few : (k : ℕ) → k < 14 → (k + 1) * (26 - k) ≤ 14 * 26
few k h =
    let p : k + 1 ≤ 14 = omega arith in
    let q : 26 - k ≤ 26 = omega arith in
    mul-le-mul p q

pub overflow_mul-k : goal.overflow_mul-k
overflow_mul-k g c = omega (arith, few c.args.k c.requires)

pub of_small-requires : goal.of_small-requires
of_small-requires g c = omega (arith, counts g.T.Real.format)

pub of_small-requires-2 : goal.of_small-requires-2
of_small-requires-2 g c = omega (arith, few c.args.k c.requires, counts g.T.Real.format)

pub returns : goal.returns
unfolding next_coefficient
returns g c =
    let f = g.T.Real.format in
    let laws = g.met.T.Real in
    let above = laws.mul_law _ _ _ c.mul.ensures ∙ ap (mul f (g.T.Real.float c.args.c)) c.of_small.ensures in
    let under : g.T.Real.float c.of_small-2.result ≡ of_int f (pos (suc c.args.k * (26 - c.args.k))) = rw (c.of_small-2.ensures, add-one) in
    laws.div_law _ _ _ c.div.ensures ∙ (λ i. div f (above i) (under i))
