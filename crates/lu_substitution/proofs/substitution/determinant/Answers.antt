-- `determinant` meets its contract, by the steps down the diagonal. Assumes nothing.
use mathlib.Core.Path.{refl, ap, ◌∙◌}
use lib.Ieee.{Float}
use Rattle.lu_factoring.specs.Solve.{signed_product, determinant_of, sign_of}
use Rattle.lu_factoring.proofs.SolveLaws.{product_turn}
use Rattle.lu_substitution.proofs.SubstitutionLaws.{steps_start, steps_turn, steps_end}
use Rattle.lu_substitution.proofs.substitution.determinant.Goals as goal

pub loop-k-init : goal.loop-k-init
unfolding signed_product
loop-k-init g c = steps_start refl

pub loop-k-preserved : goal.loop-k-preserved
loop-k-preserved g c =
    let l = c.loop-k in
    steps_turn l.invariant c.loop-k-test.true
    (product_turn g.T.Real.format c.args.n (g.T.Real.floats c.args.f.now) _ _ _ _ l.k l.invariant.value c.entry.ensures (g.met.T.Real.mul_law _ _ _ c.mul-d.ensures))

pub returns : goal.returns
unfolding determinant_of
returns g c =
    steps_end c.loop-k.invariant c.loop-k-test.false
    ∙ ap (λ (d : Float). signed_product g.T.Real.format c.args.n (g.T.Real.floats c.args.f.now) d c.args.n) (c.sign-d.ensures ∙ ap sign_of c.swap_count.ensures)
