-- `frechet_expm_in` meets its contract. Assumes nothing.
use mathlib.Core.Path.{refl}
use mathlib.Core.List.{[], ◌∷◌}
use Rattle.functions_exponential_derivative.proofs.FrechetLaws.{frechet_written, frechet_reported}
use Rattle.functions_exponential_derivative.proofs.frechet.frechet_expm_in.Goals as goal

pub returns : goal.returns
returns g c =
    let a = c.args in
    let f = c.fill_block in
    let x = c.expm_in-answer in
    let q = c.write_quarters in
    let W = frechet_written g.T.Real.format a.n (0 ∷ 1 ∷ 2 ∷ 3 ∷ 4 ∷ 5 ∷ []) (g.T.Real.floats a.a.now) (g.T.Real.floats a.e.now) (g.T.Real.floats a.first.now) (g.T.Real.floats q.new.first) (g.T.Real.floats a.second.now) (g.T.Real.floats q.new.second) (g.T.Real.floats a.w.now) (g.T.Real.floats f.new.w) (g.T.Real.floats x.new.w)
    x.result.outcome q.result.outcome c.requires.room refl f.ensures x.ensures.replaced q.ensures.quartered in
    record {
      written = W;
      report_value = frechet_reported g.T.Real.format a.n (g.T.Real.floats a.a.now) (g.T.Real.floats a.e.now) (g.T.Real.floats a.w.now) (g.T.Real.floats f.new.w) x.result.outcome q.result.outcome x.result.report q.result.report c.requires.room f.ensures W.outcome x.ensures.replaced.outcome q.ensures.quartered.outcome x.ensures.report_value q.ensures.report_value;
    }
