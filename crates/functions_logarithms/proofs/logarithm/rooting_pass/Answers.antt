-- `rooting_pass` meets its contract: a law for each branch. Assumes nothing.
use mathlib.Core.Path.{sym, ◌∙◌}
use Rattle.functions_logarithms.proofs.LogarithmLaws.{near_stopped, far_rooted, far_failed}
use Rattle.functions_logarithms.proofs.logarithm.rooting_pass.Goals as goal

pub returns-then-answers : goal.returns-then-answers
returns-then-answers g c =
    let p = c.newton_root-root in
    far_rooted g.T.Real.format c.args.n (g.T.Real.floats c.args.w.now) c.requires (g.T.Real.floats p.new.w) p.result (sym c.is_far.ensures ∙ c.if-is_far.true) p.ensures (g.T.Real.floats c.copy.new.w)
    (sym c.answers.ensures ∙ c.if-answers.true) c.copy.ensures

pub returns-else-answers : goal.returns-else-answers
returns-else-answers g c =
    let p = c.newton_root-root in
    far_failed g.T.Real.format c.args.n (g.T.Real.floats c.args.w.now) c.requires (g.T.Real.floats p.new.w) p.result (sym c.is_far.ensures ∙ c.if-is_far.true) p.ensures c.nothing.result (sym c.answers.ensures ∙ c.if-answers.false) c.nothing.ensures

pub returns-else-is_far : goal.returns-else-is_far
returns-else-is_far g c = near_stopped g.T.Real.format c.args.n (g.T.Real.floats c.args.w.now) c.requires c.nothing-else-is_far.result (sym c.is_far.ensures ∙ c.if-is_far.false) c.nothing-else-is_far.ensures
