-- `second_inverse` meets its contract: a law for each outcome of LU. Assumes nothing.
use native.Mathlib.Omega.{arith}
use Rattle.arithmetic_questions.proofs.ReportLaws.{same_steps}
use Rattle.functions_roots.proofs.PassLaws.{failed_reports}
use Rattle.functions_roots.proofs.SquareRootLaws.{second_passed, second_failed, second_reported}
use Rattle.functions_roots.proofs.square_root.second_inverse.Goals as goal

pub returns-in-Ok : goal.returns-in-Ok
returns-in-Ok g c =
    let d = c.divide_slot-d in
    let rest = c.means-pass in
    record {
      second_inverse = second_passed g.T.Real.format c.args.n (g.T.Real.floats c.args.w.now) c.requires (g.T.Real.floats c.copy.new.w) (g.T.Real.floats c.identity.new.w) (g.T.Real.floats d.new.w) d.result.outcome c.copy.ensures c.identity.ensures d.ensures.slot_quotient
          (g.T.Real.floats rest.new.w) rest.result c.in-Ok.is rest.ensures;
      reports = record {
        few = omega (arith, same_steps c.factored.ensures);
        report = λ _.
            second_reported g.T.Real.format c.args.n (g.T.Real.floats c.args.w.now) c.requires (g.T.Real.floats c.copy.new.w) (g.T.Real.floats c.identity.new.w) (g.T.Real.floats d.new.w) d.result.outcome c.copy.ensures c.identity.ensures d.ensures.slot_quotient
            (g.T.Real.float d.result.smallest) c.factored.result d.ensures.smallest_value c.factored.ensures;
      };
    }

pub returns-in-Err : goal.returns-in-Err
returns-in-Err g c =
    let d = c.divide_slot-d in
    record {
      second_inverse = second_failed g.T.Real.format c.args.n (g.T.Real.floats c.args.w.now) c.requires (g.T.Real.floats c.copy.new.w) (g.T.Real.floats c.identity.new.w) (g.T.Real.floats d.new.w) d.result.outcome c.copy.ensures c.identity.ensures d.ensures.slot_quotient
          c.in-Err.field-0.column c.in-Err.is;
      reports = failed_reports c.nothing.ensures;
    }
