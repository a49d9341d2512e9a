-- `trigonometric_halvings` meets its contract. Assumes nothing.
use mathlib.Core.Path.{◌≡◌, ap, ◌∙◌}
use Rattle.std.proofs.Common.{rules}
use lib.Ieee.{add}
use Rattle.arithmetic_floats.specs.Float.{one}
use Rattle.arithmetic_matrices.specs.Norm.{norm1}
use Rattle.arithmetic_matrices.specs.Workspace.{slot}
use Rattle.functions_definitions.specs.Powers.{halvings_report}
use Rattle.functions_trigonometric.proofs.cosine.trigonometric_halvings.Goals as goal

pub returns : goal.returns
returns g c =
    let a = c.args in
    let more : g.T.Real.float c.add.result ≡ add g.T.Real.format (norm1 g.T.Real.format a.n (slot a.n (g.T.Real.floats a.w.now) 0)) one = search rules in
    c.halvings_for.ensures ∙ ap halvings_report more
