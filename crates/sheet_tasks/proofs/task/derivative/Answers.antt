-- `derivative` meets its contract. Assumes nothing.
use Prim.Native.Nat.{ℕ}
use lib.Ieee.{binary64}
use Rattle.functions_definitions.specs.Calls.{frechet_expm, frechet_logm, frechet_sqrtm, frechet_sqrtm_sylvester}
use Rattle.sheet_tasks.specs.Tasks.{derivative_for, derivative_report}
use Rattle.sheet_tasks.proofs.TaskLaws.{chosen_two}
use Rattle.sheet_tasks.proofs.task.derivative.Goals as goal

pub returns-in-FrechetExpm : goal.returns-in-FrechetExpm
unfolding derivative_for derivative_report
returns-in-FrechetExpm c =
    let a = c.args in
    let call = c.frechet_expm_with.ensures in
    let both = chosen_two a.n (λ (x y w : ℕ). frechet_expm binary64 a.n a.n a.a.now a.n a.n a.e.now x y w) _ c.requires.0 c.requires.1 c.requires.2 (call.two_outputs_with, call.report_value) in
    rw c.in-FrechetExpm.is record { two_outputs_with = both.0; report_value = both.1 }

pub returns-in-FrechetLogm : goal.returns-in-FrechetLogm
unfolding derivative_for derivative_report
returns-in-FrechetLogm c =
    let a = c.args in
    let call = c.frechet_logm_with.ensures in
    let both = chosen_two a.n (λ (x y w : ℕ). frechet_logm binary64 a.n a.n a.a.now a.n a.n a.e.now x y w) _ c.requires.0 c.requires.1 c.requires.2 (call.two_outputs_with, call.report_value) in
    rw c.in-FrechetLogm.is record { two_outputs_with = both.0; report_value = both.1 }

pub returns-in-FrechetSqrtm : goal.returns-in-FrechetSqrtm
unfolding derivative_for derivative_report
returns-in-FrechetSqrtm c =
    let a = c.args in
    let call = c.frechet_sqrtm_with.ensures in
    let both = chosen_two a.n (λ (x y w : ℕ). frechet_sqrtm binary64 a.n a.n a.a.now a.n a.n a.e.now x y w) _ c.requires.0 c.requires.1 c.requires.2 (call.two_outputs_with, call.report_value) in
    rw c.in-FrechetSqrtm.is record { two_outputs_with = both.0; report_value = both.1 }

pub returns-in-FrechetSqrtmSylvester : goal.returns-in-FrechetSqrtmSylvester
unfolding derivative_for derivative_report
returns-in-FrechetSqrtmSylvester c =
    let a = c.args in
    let call = c.frechet_sqrtm_sylvester_with.ensures in
    let both = chosen_two a.n (λ (x y w : ℕ). frechet_sqrtm_sylvester binary64 a.n a.n a.a.now a.n a.n a.e.now x y w) _ c.requires.0 c.requires.1 c.requires.2 (call.two_outputs_with, call.report_value) in
    rw c.in-FrechetSqrtmSylvester.is record { two_outputs_with = both.0; report_value = both.1 }
