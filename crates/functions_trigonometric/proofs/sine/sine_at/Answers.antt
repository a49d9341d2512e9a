-- `sine_at` meets its contract: a step for each call. Assumes nothing.
use mathlib.Core.Path.{ap, ◌∙◌}
use lib.Ieee.{Float}
use Rattle.arithmetic_matrices.specs.Product.{times_m}
use Rattle.arithmetic_matrices.specs.Workspace.{slot, store}
use Rattle.functions_trigonometric.proofs.SeriesLaws.{sine_steps}
use Rattle.functions_trigonometric.proofs.sine.sine_at.Goals as goal

pub returns : goal.returns
returns g c =
    let a = c.args in
    sine_steps g.T.Real.format a.n (g.T.Real.floats a.w.now) c.requires.room a.s (g.T.Real.floats c.scale.new.w) (g.T.Real.floats c.sine_and_cosine.new.w) (g.T.Real.floats c.double_both.new.w)
    (c.scale.ensures ∙ ap (λ (b : Float). store (g.T.Real.floats a.w.now) 0 (times_m g.T.Real.format a.n b (slot a.n (g.T.Real.floats a.w.now) 0))) c.inverse_power_of_two.ensures)
    c.sine_and_cosine.ensures c.double_both.ensures
