-- `norm_1` meets its contract, by the loop of the largest column sum, two columns a turn. Assumes nothing.
use native.Mathlib.Omega.{arith}
use mathlib.Core.Path.{sym, ◌∙◌, ap}
use Rattle.arithmetic_matrices.specs.Workspace.{slot}
use Rattle.arithmetic_matrices.proofs.NormLaws.{norm1-part}
use Rattle.arithmetic_matrices.proofs.SeenSums.{largest_start, largest_two, largest_last, largest_end}
use Rattle.arithmetic_matrices.proofs.norm.norm_1.Goals as goal

pub loop-k-init : goal.loop-k-init
loop-k-init g c = largest_start (ap g.T.Real.float c.ZERO-max.ensures ∙ g.met.T.Real.zero_law)

pub loop-k-preserved : goal.loop-k-preserved
loop-k-preserved g c =
    let e = c.two_column_sums-sums.ensures in
    largest_two c.loop-k.k c.loop-k.invariant (omega arith) e.0 e.1 c.larger.ensures c.larger-max.ensures

pub returns-then-n-eq1 : goal.returns-then-n-eq1
unfolding slot
returns-then-n-eq1 g c =
    largest_last c.loop-k.invariant (omega arith) c.column_sum.ensures c.larger-then-n-eq1.ensures ∙ sym (norm1-part g.T.Real.format c.args.n (g.T.Real.floats c.args.w.now) _)

pub returns-else-n-eq1 : goal.returns-else-n-eq1
unfolding slot
returns-else-n-eq1 g c = largest_end c.loop-k.invariant (omega arith) ∙ sym (norm1-part g.T.Real.format c.args.n (g.T.Real.floats c.args.w.now) _)
