-- `double_both` meets its contract. The invariant: the first i doublings are done. Assumes nothing.
use Rattle.functions_trigonometric.proofs.SeriesLaws.{both_none, both_more}
use native.Mathlib.Omega.{arith}
use Rattle.functions_trigonometric.proofs.sine.double_both.Goals as goal

pub loop-i-init : goal.loop-i-init
loop-i-init g c = (omega arith, both_none g.T.Real.format _ _ c.requires)

pub loop-i-preserved : goal.loop-i-preserved
loop-i-preserved g c = (omega arith, both_more g.T.Real.format c.args.n (g.T.Real.floats c.args.w.now) c.requires c.loop-i.i (g.T.Real.floats c.loop-i.w) (g.T.Real.floats c.double_angle.new.w) c.loop-i.invariant.1 c.double_angle.ensures)
