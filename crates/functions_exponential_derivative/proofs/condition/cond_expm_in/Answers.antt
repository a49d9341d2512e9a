-- `cond_expm_in` meets its contract. Assumes nothing.
use Prim.Native.Nat.{◌≤◌}
use native.Mathlib.Omega.{arith}
use Rattle.functions_exponential_derivative.proofs.ConditionLaws.{condition_steps, condition_only, condition_reported}
use Rattle.functions_exponential_derivative.proofs.condition.cond_expm_in.Goals as goal

pub returns : goal.returns
returns g c =
    let a = c.args in
    let u = c.unit_direction in
    let f = c.frechet_expm_in-answer in
    let k = c.condition_answer in
    let n = a.n in
    let few : n ≤ 16 = omega (arith, c.requires.n_bound.0) in
    let x' = (g.T.Real.floats f.new.first) in
    let d' = (g.T.Real.floats f.new.second) in
    let w2 = (g.T.Real.floats f.new.w) in
    record {
      conditioned = condition_steps g.T.Real.format n few (g.T.Real.floats a.a.now) (g.T.Real.floats a.w.now) (g.T.Real.floats u.new.w) w2 (g.T.Real.floats u.new.out) (g.T.Real.floats a.x.now) x' (g.T.Real.floats a.d.now) d' f.result.outcome u.ensures.w_after u.ensures.out_after f.ensures.written k.result.outcome _ k.ensures.conditioned;
      only = condition_only g.T.Real.format n few (g.T.Real.floats a.a.now) (g.T.Real.floats a.w.now) (g.T.Real.floats u.new.w) w2 (g.T.Real.floats u.new.out) (g.T.Real.floats a.x.now) x' (g.T.Real.floats a.d.now) d' f.result.outcome u.ensures.w_after u.ensures.out_after f.ensures.written;
      report_value = condition_reported g.T.Real.format n few (g.T.Real.floats a.a.now) (g.T.Real.floats a.w.now) (g.T.Real.floats u.new.w) w2 (g.T.Real.floats u.new.out) (g.T.Real.floats a.x.now) x' (g.T.Real.floats a.d.now) d' f.result.outcome u.ensures.w_after u.ensures.out_after f.ensures.written f.result.report k.result.report f.ensures.report_value k.ensures.report_value;
    }
