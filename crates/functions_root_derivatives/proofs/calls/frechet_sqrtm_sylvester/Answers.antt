-- `frechet_sqrtm_sylvester` meets its contract: where the root is symmetric, its definition is that of frechet_sqrtm. Assumes nothing.
use lib.ListN.{length}
use Rattle.functions_definitions.proofs.SymmetricLaws.{same_answer}
use Rattle.functions_root_derivatives.proofs.calls.frechet_sqrtm_sylvester.Goals as goal

pub returns : goal.returns
returns g c =
    let a = c.args in
    let q = c.frechet_sqrtm_sylvester_with.ensures in
    record {
      two_outputs_in = q.two_outputs_with;
      report_value = q.report_value;
      two_outputs_in_2 = same_answer g.T.Real.format a.rows a.columns (g.T.Real.floats a.a.now) a.height a.width (g.T.Real.floats a.e.now) (length a.first.now) (length a.second.now) (length a.w.now) q.two_outputs_with q.report_value;
    }
