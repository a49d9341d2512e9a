-- `exponential_in` meets its contract. Assumes nothing.
use mathlib.Core.Path.{ap, ◌∙◌}
use lib.Ieee.{Float}
use Rattle.arithmetic_matrices.specs.Product.{times_m}
use Rattle.arithmetic_matrices.specs.Workspace.{slot, store}
use Rattle.functions_exponential.proofs.ExponentialLaws.{exponential_steps, scaled_reported}
use Rattle.functions_exponential.proofs.exponential.exponential_in.Goals as goal

pub returns : goal.returns
returns g c =
    let square1 = c.square in
    let pade1 = c.pade-report in
    let scale1 = c.scale in
    let a = c.args in
    let e1 = scale1.ensures ∙ ap (λ (b : Float). store (g.T.Real.floats a.w.now) 0 (times_m g.T.Real.format a.n b (slot a.n (g.T.Real.floats a.w.now) 0))) c.inverse_power_of_two.ensures in
    record {
      exponentiated = exponential_steps g.T.Real.format a.n (g.T.Real.floats a.w.now) c.requires.room a.s (g.T.Real.floats scale1.new.w) (g.T.Real.floats pade1.new.w) (g.T.Real.floats square1.new.w) e1 pade1.ensures.approximated square1.ensures;
      value = scaled_reported g.T.Real.format a.n (g.T.Real.floats a.w.now) c.requires.room a.s (g.T.Real.floats scale1.new.w) pade1.result e1 pade1.ensures.value;
    }
