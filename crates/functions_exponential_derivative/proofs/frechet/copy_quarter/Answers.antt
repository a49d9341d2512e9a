-- `copy_quarter` meets its contract. The invariant: the rows of `out` below i are those of the quarter. Assumes nothing.
use mathlib.Core.Path.{◌≡◌, refl, ap, ◌∙◌}
use native.Mathlib.Omega.{arith}
use Rattle.arithmetic_matrices.specs.Kernels.{rows_to, with_row}
use Rattle.arithmetic_matrices.proofs.PatchLaws.{rows_none, rows_more, rows_all}
use Rattle.functions_definitions.specs.Exponential.{quarter}
use Rattle.functions_exponential_derivative.specs.Kernels.{quarter_row}
use Rattle.functions_exponential_derivative.proofs.frechet.copy_quarter.Goals as goal

pub loop-i-init : goal.loop-i-init
loop-i-init g c =
    let a = c.args in
    (omega arith, c.requires.3, rows_none a.n (quarter_row a.n a.c (g.T.Real.floats a.b.now)) (g.T.Real.floats a.out.now))

pub loop-i-preserved : goal.loop-i-preserved
loop-i-preserved g c =
    let l = c.loop-i in
    let a = c.args in
    let F = quarter_row a.n a.c (g.T.Real.floats a.b.now) in
    let e =
    c.quarter_row.ensures
    ∙ ap (with_row a.n l.i (F l.i)) l.invariant.2
    ∙ rows_more a.n F (g.T.Real.floats a.out.now) (F l.i) l.i (λ k h. refl) in
    (omega arith, c.quarter_row.auto.out ∙ l.invariant.1, e)

pub returns : goal.returns
unfolding quarter quarter_row
returns g c =
    let l = c.loop-i in
    let a = c.args in
    let e : l.i ≡ a.n = omega arith in
    l.invariant.2 ∙ ap (rows_to a.n (quarter_row a.n a.c (g.T.Real.floats a.b.now)) (g.T.Real.floats a.out.now)) e ∙ rows_all a.n (quarter_row a.n a.c (g.T.Real.floats a.b.now)) (g.T.Real.floats a.out.now) a.n (g.met.T.Real.length_law a.out.now ∙ c.requires.3)
