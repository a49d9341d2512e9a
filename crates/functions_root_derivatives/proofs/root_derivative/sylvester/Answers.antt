-- `sylvester` meets its contract: a law for each outcome of LU. Assumes nothing.
use mathlib.Core.Path.{sym}
use mathlib.Core.Bool.{true≢false}
use Rattle.functions_root_derivatives.proofs.RootDerivativeLaws.{sylvester_solved, sylvester_refused, sylvester_reported}
use Rattle.functions_root_derivatives.specs.Kernels.{second_of}
use Rattle.functions_root_derivatives.proofs.root_derivative.sylvester.Goals as goal

pub returns-in-Ok : goal.returns-in-Ok
returns-in-Ok g c =
    let q = c.solve_system-d in
    record {
      derived = sylvester_solved g.T.Real.format c.args.n (second_of c.args.transposed c.args.n) (g.T.Real.floats c.args.w.now) c.requires.room (g.T.Real.floats c.load_system.new.w) (g.T.Real.floats c.transpose.new.w) (g.T.Real.floats q.new.w) q.result.outcome c.requires.n_bound.1
          c.load_system.ensures c.transpose.ensures q.ensures.system_solved (g.T.Real.floats c.transpose-in-Ok.new.w) c.in-Ok.is c.transpose-in-Ok.ensures;
      report_value = λ _. sylvester_reported g.T.Real.format c.args.n (second_of c.args.transposed c.args.n) (g.T.Real.floats c.args.w.now) c.requires.room (g.T.Real.floats c.load_system.new.w) (g.T.Real.floats c.transpose.new.w) (g.T.Real.floats q.new.w) q.result.outcome c.requires.n_bound.1
          c.load_system.ensures c.transpose.ensures q.ensures.system_solved (g.T.Real.float q.result.smallest) c.factored.result q.ensures.smallest_value c.factored.ensures;
    }

pub returns-in-Err : goal.returns-in-Err
returns-in-Err g c =
    let q = c.solve_system-d in
    record {
      derived = sylvester_refused g.T.Real.format c.args.n (second_of c.args.transposed c.args.n) (g.T.Real.floats c.args.w.now) c.requires.room (g.T.Real.floats c.load_system.new.w) (g.T.Real.floats c.transpose.new.w) (g.T.Real.floats q.new.w) q.result.outcome c.requires.n_bound.1
          c.load_system.ensures c.transpose.ensures q.ensures.system_solved c.in-Err.field-0.column c.in-Err.is;
      report_value = λ e. absurd (true≢false (sym e));
    }
