-- `factor_matrix` meets its contract, by the loop over the columns (`Columns` of LuLoop). Assumes nothing.
use mathlib.Core.Path.{◌∙◌, sym}
use Rattle.lu_factoring.proofs.LuLoop.{columns_start, columns_refused, columns_passed, columns_end}
use Rattle.lu_factoring.proofs.factor.factor_matrix.Goals as goal

pub returns-then-le : goal.returns-then-le
returns-then-le g c =
    columns_refused _ _ _ _ _ _ c.loop-k.invariant c.loop-k-test.true c.find_pivot-p.ensures.0 c.entry.ensures c.magnitude.ensures.value c.tolerance-tol.ensures
    (sym (g.met.T.Real.at_most_law _ _) ∙ sym c.le.ensures ∙ c.if-le.true)

pub loop-k-preserved : goal.loop-k-preserved
loop-k-preserved g c =
    columns_passed _ _ _ _ _ _ c.loop-k.invariant c.loop-k-test.true c.find_pivot-p.ensures.0 c.entry.ensures c.magnitude.ensures.value c.tolerance-tol.ensures _ _
    (sym (g.met.T.Real.at_most_law _ _) ∙ sym c.le.ensures ∙ c.if-le.false) c.swap_rows.ensures c.eliminate.ensures

pub loop-k-init : goal.loop-k-init
loop-k-init g c = columns_start _ _ _ _ (g.met.T.Real.length_law _ ∙ c.requires.1) c.requires.2

pub returns : goal.returns
returns g c = search columns_end
