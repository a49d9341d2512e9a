-- `divide_reporting` meets its contract. Assumes nothing.
use Prim.Native.Nat.{◌*◌}
use mathlib.Core.Path.{sym, ap, ◌∙◌}
use Rattle.arithmetic_matrices.specs.Matrix.{part}
use Rattle.lu_factoring.specs.Kernels.{divided}
use Rattle.lu_factoring.proofs.PivotLaws.{report_factored, report_singular}
use Rattle.lu_systems.proofs.workspace.divide_reporting.Goals as goal

pub returns-in-Ok : goal.returns-in-Ok
returns-in-Ok g c =
    let a = c.args in
    let d = c.divide in
    let all = c.in-Ok.is in
    record {
      outcome_value = (sym all ∙ d.ensures.0, d.ensures.1 ∙ ap (divided g.T.Real.format a.n a.m a.f a.x (g.T.Real.floats a.w.now)) all);
      smallest_value = report_factored g.T.Real.format a.n a.m a.f a.x (g.T.Real.floats a.w.now) (g.T.Real.floats d.new.w) d.result (g.T.Real.float c.smallest_pivot.result) (rw (g.met.T.Real.length_law a.w.now) c.requires.1) c.requires.3 all d.ensures.0 d.ensures.1 c.smallest_pivot.ensures;
    }

pub returns-in-Err : goal.returns-in-Err
returns-in-Err g c =
    let a = c.args in
    let d = c.divide in
    let e = c.in-Err.is in
    record {
      outcome_value = (sym e ∙ d.ensures.0, d.ensures.1 ∙ ap (divided g.T.Real.format a.n a.m a.f a.x (g.T.Real.floats a.w.now)) e);
      smallest_value = ap g.T.Real.float c.INFINITY.ensures ∙ g.met.T.Real.infinity_law ∙ report_singular g.T.Real.format a.n c.in-Err.no.column (part (g.T.Real.floats a.w.now) a.f (a.n * a.n)) d.result e d.ensures.0;
    }
