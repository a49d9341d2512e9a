-- `root_pass` meets its contract: a law for each outcome of LU. Assumes nothing.
use native.Mathlib.Omega.{arith}
use Rattle.arithmetic_questions.proofs.ReportLaws.{same_steps}
use Rattle.functions_roots.proofs.PassLaws.{failed_reports}
use Rattle.functions_roots.proofs.SquareRootLaws.{root_passed, root_failed, pair_reported}
use Rattle.functions_roots.proofs.square_root.root_pass.Goals as goal

pub returns-in-Ok : goal.returns-in-Ok
returns-in-Ok g c =
    let d = c.divide_slot-d in
    let rest = c.second_inverse-rest in
    record {
      passed =
          root_passed g.T.Real.format c.args.n (g.T.Real.floats c.args.w.now) c.requires (g.T.Real.floats c.copy.new.w) (g.T.Real.floats c.identity.new.w) (g.T.Real.floats d.new.w) d.result.outcome c.copy.ensures c.identity.ensures d.ensures.slot_quotient
          (g.T.Real.floats rest.new.w) rest.result.pass c.in-Ok.is rest.ensures.second_inverse;
      reports = record {
        few = omega (arith, same_steps c.beside.ensures, same_steps c.factored-first.ensures, rest.ensures.reports.few);
        report = λ e.
            pair_reported g.T.Real.format c.args.n (g.T.Real.floats c.args.w.now) c.requires (g.T.Real.floats c.copy.new.w) (g.T.Real.floats c.identity.new.w) (g.T.Real.floats d.new.w) d.result.outcome c.copy.ensures c.identity.ensures d.ensures.slot_quotient
            (g.T.Real.float d.result.smallest) c.factored-first.result rest.result.report c.beside.result d.ensures.smallest_value c.factored-first.ensures (rest.ensures.reports.report e) c.beside.ensures;
      };
    }

pub returns-in-Err : goal.returns-in-Err
returns-in-Err g c =
    let d = c.divide_slot-d in
    record {
      passed =
          root_failed g.T.Real.format c.args.n (g.T.Real.floats c.args.w.now) c.requires (g.T.Real.floats c.copy.new.w) (g.T.Real.floats c.identity.new.w) (g.T.Real.floats d.new.w) d.result.outcome c.copy.ensures c.identity.ensures d.ensures.slot_quotient
          c.in-Err.field-0.column c.in-Err.is;
      reports = failed_reports c.nothing.ensures;
    }
