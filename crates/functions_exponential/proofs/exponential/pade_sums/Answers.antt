-- `pade_sums` meets its contract, by the loop over the terms (`PadeTerms` of ExponentialLaws). Assumes nothing.
use mathlib.Core.Path.{ap, ◌∙◌}
use Rattle.arithmetic_matrices.specs.Workspace.{slot}
use Rattle.arithmetic_matrices.proofs.States.{State, listed}
use Rattle.functions_exponential.proofs.ExponentialLaws.{summing, sums, sums_none, sums_end, terms_start, terms_turn, terms_end}
use Rattle.functions_exponential.proofs.exponential.pade_sums.Given.{Over}
use Rattle.functions_exponential.proofs.exponential.pade_sums.Goals as goal

-- before the first term
none : (g : Over) (c : goal.After-ONE-c g) → State summing (g.T.Real.floats c.args.w.now) (g.T.Real.floats c.zero-2.new.w) (listed (sums g.T.Real.format c.args.n (slot c.args.n (g.T.Real.floats c.args.w.now) 0) 0))
none g c =
    sums_none g.T.Real.format c.args.n (g.T.Real.floats c.args.w.now) c.requires (g.T.Real.floats c.identity.new.w) (g.T.Real.floats c.zero.new.w) (g.T.Real.floats c.zero-2.new.w) c.identity.ensures c.zero.ensures c.zero-2.ensures

pub loop-k-init : goal.loop-k-init
loop-k-init g c =
    terms_start g.T.Real.format c.args.n (g.T.Real.floats c.args.w.now) c.requires (g.T.Real.floats c.zero-2.new.w) (g.T.Real.float c.ONE-c.result) (ap g.T.Real.float c.ONE-c.ensures ∙ g.met.T.Real.one_law) (none g c)

pub loop-k-preserved : goal.loop-k-preserved
loop-k-preserved g c = terms_turn c.loop-k.invariant c.loop-k-test.true c.flip.ensures c.accumulate.ensures c.accumulate-in-loop-k.ensures c.raise.ensures c.next_coefficient-c.ensures

pub returns : goal.returns
returns g c = sums_end g.T.Real.format c.args.n (g.T.Real.floats c.args.w.now) c.requires (g.T.Real.floats c.zero-2.new.w) (g.T.Real.floats c.loop-k.w) (none g c.before.before) (terms_end c.loop-k.invariant c.loop-k-test.false)
