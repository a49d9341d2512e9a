-- `norm_1_minus_identity` meets its contract, by the loop of the largest column sum. Assumes nothing.
use mathlib.Core.Path.{sym, ◌∙◌, ap}
use Rattle.arithmetic_matrices.specs.Workspace.{slot}
use Rattle.arithmetic_matrices.proofs.NormLaws.{norm1_minus_identity}
use Rattle.arithmetic_matrices.proofs.SeenSums.{largest_start, largest_turn, largest_end}
use Rattle.arithmetic_matrices.proofs.norm.norm_1_minus_identity.Goals as goal

pub loop-j-init : goal.loop-j-init
loop-j-init g c = largest_start (ap g.T.Real.float c.ZERO-max.ensures ∙ g.met.T.Real.zero_law)

pub loop-j-preserved : goal.loop-j-preserved
loop-j-preserved g c = largest_turn c.loop-j.invariant c.loop-j-test.true c.column_sum_minus_identity.ensures c.larger-max.ensures

pub returns : goal.returns
unfolding slot
returns g c = largest_end c.loop-j.invariant c.loop-j-test.false ∙ sym (norm1_minus_identity g.T.Real.format c.args.n (g.T.Real.floats c.args.w.now) _)
