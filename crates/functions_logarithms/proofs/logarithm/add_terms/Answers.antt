-- `add_terms` meets its contract, by the loop over the terms (`Passing` of PassLaws). Assumes nothing.
use native.Mathlib.Omega.{arith}
use mathlib.Core.Path.{◌≡◌, refl, ap, ◌∙◌}
use mathlib.Core.Bool.{false}
use Rattle.arithmetic_questions.specs.Reports.{iterated}
use Rattle.arithmetic_matrices.proofs.Slots.{room_kept}
use Rattle.functions_roots.specs.Kernels.{tested}
use Rattle.functions_roots.specs.declared.pass.Pass.TheVariants.{Running, Stopped}
use Rattle.functions_roots.proofs.PassLaws.{passing_start, passing_more, passing_stops, passing_counted, passing_out, passing_counted_out}
use Rattle.functions_logarithms.proofs.LogarithmLaws.{term_same, terms_added}
use Rattle.functions_logarithms.proofs.logarithm.add_terms.Goals as goal

pub returns-then-series_pass : goal.returns-then-series_pass
returns-then-series_pass g c =
    let stopped = ap tested c.if-series_pass.true in
    terms_added g.T.Real.format c.args.n (g.T.Real.floats c.args.w.now) c.requires Stopped _ c.iterated.result refl (passing_stops c.loop-k.invariant c.loop-k-test.true (term_same g.T.Real.format c.args.n (g.T.Real.floats c.args.w.now) c.requires c.loop-k.k (g.T.Real.floats c.loop-k.w) (g.T.Real.floats c.series_pass.new.w) (tested c.series_pass.result) c.loop-k.invariant.only c.series_pass.ensures) stopped)
    (c.iterated.ensures ∙ passing_counted c.loop-k.invariant c.loop-k-test.true (term_same g.T.Real.format c.args.n (g.T.Real.floats c.args.w.now) c.requires c.loop-k.k (g.T.Real.floats c.loop-k.w) (g.T.Real.floats c.series_pass.new.w) (tested c.series_pass.result) c.loop-k.invariant.only c.series_pass.ensures) stopped)

pub loop-k-preserved : goal.loop-k-preserved
loop-k-preserved g c = passing_more c.loop-k.invariant c.loop-k-test.true (term_same g.T.Real.format c.args.n (g.T.Real.floats c.args.w.now) c.requires c.loop-k.k (g.T.Real.floats c.loop-k.w) (g.T.Real.floats c.series_pass.new.w) (tested c.series_pass.result) c.loop-k.invariant.only c.series_pass.ensures) (ap tested c.if-series_pass.false)

pub returns : goal.returns
returns g c =
    let all : 59 ≡ c.loop-k.k = omega (arith, c.loop-k-test.false, c.loop-k.invariant.within) in
    terms_added g.T.Real.format c.args.n (g.T.Real.floats c.args.w.now) c.requires Running _ c.iterated-2.result refl (passing_out c.loop-k.invariant c.loop-k-test.false)
    (c.iterated-2.ensures ∙ ap (λ k. iterated k false) all ∙ passing_counted_out c.loop-k.invariant c.loop-k-test.false)

pub loop-k-init : goal.loop-k-init
loop-k-init g c = search passing_start

pub series_pass-requires : goal.series_pass-requires
series_pass-requires g c =
    record {
      room = search room_kept;
      k_bound = omega arith;
    }
