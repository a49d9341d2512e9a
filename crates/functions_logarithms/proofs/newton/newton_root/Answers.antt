-- `newton_root` meets its contract. Assumes nothing.
use Rattle.functions_logarithms.proofs.NewtonLaws.{newton_all}
use Rattle.functions_logarithms.proofs.newton.newton_root.Goals as goal

pub returns : goal.returns
returns g c = newton_all g.T.Real.format c.args.n (g.T.Real.floats c.args.w.now) c.requires (g.T.Real.floats c.diagonal.new.w) (g.T.Real.floats c.newton_passes.new.w) (g.T.Real.float c.newton_scale-scale.result) c.newton_passes.result c.newton_scale-scale.ensures c.diagonal.ensures c.newton_passes.ensures
