-- `solve_system` meets its contract: the local room has n * n places. Assumes nothing.
use native.Mathlib.Nat.{mul-one, mul-le-mul}
use Prim.Native.Nat.{◌*◌}
use mathlib.Core.Path.{sym}
use mathlib.Core.Logic.{inr}
use lib.Seq.{length-take-le}
use Rattle.arithmetic_matrices.specs.Workspace.{slot}
use Rattle.functions_root_derivatives.proofs.RootDerivativeLaws.{system_solved}
use native.Mathlib.Omega.{arith}
use Rattle.functions_root_derivatives.proofs.root_derivative.solve_system.Goals as goal

pub slice_bounds-divide_reporting-end : goal.slice_bounds-divide_reporting-end
slice_bounds-divide_reporting-end g c = sym (length-take-le _ _ (omega (arith, c.requires.1, c.pivot_room-rows.ensures)))

pub divide_reporting-requires : goal.divide_reporting-requires
divide_reporting-requires g c =
    let n = c.args.n in
    let few = mul-le-mul c.requires.1 c.requires.1 in
    let one = mul-one (n * n) in (
      c.requires.1,
      omega (arith, few, c.requires.2),
      omega (arith, one, c.requires.1, c.requires.2),
      inr (omega (arith, one, c.requires.1)),
      length-take-le _ _ (omega (arith, c.requires.1, c.pivot_room-rows.ensures)),
    )

pub returns : goal.returns
unfolding slot
returns g c =
    let d = c.divide_reporting in
    record {
      system_solved = system_solved g.T.Real.format c.args.n (g.T.Real.floats c.args.w.now) c.requires.1 (omega (arith, c.requires.2, g.met.T.Real.length_law c.args.w.now)) (g.T.Real.floats d.new.w) d.result.outcome d.ensures.outcome_value.0 d.ensures.outcome_value.1;
      smallest_value = d.ensures.smallest_value;
    }
