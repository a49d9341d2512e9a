-- `value` meets its contract. Assumes nothing.
use Prim.Native.Nat.{ℕ}
use lib.Ieee.{binary64}
use Rattle.functions_definitions.specs.Calls.{expm, logm, sqrtm, powm, cosm, sinm}
use Rattle.sheet_tasks.specs.Tasks.{value_for, value_report}
use Rattle.sheet_tasks.proofs.TaskLaws.{chosen_one}
use Rattle.sheet_tasks.proofs.task.value.Goals as goal

pub returns-in-Expm : goal.returns-in-Expm
unfolding value_for value_report
returns-in-Expm c =
    let a = c.args in
    let call = c.expm_with.ensures in
    let both = chosen_one a.n (λ (x w : ℕ). expm binary64 a.n a.n a.a.now x w) _ c.requires.0 c.requires.1 (call.one_output_with, call.report_value) in
    rw c.in-Expm.is record { one_output_with = both.0; report_value = both.1 }

pub returns-in-Logm : goal.returns-in-Logm
unfolding value_for value_report
returns-in-Logm c =
    let a = c.args in
    let call = c.logm_with.ensures in
    let both = chosen_one a.n (λ (x w : ℕ). logm binary64 a.n a.n a.a.now x w) _ c.requires.0 c.requires.1 (call.one_output_with, call.report_value) in
    rw c.in-Logm.is record { one_output_with = both.0; report_value = both.1 }

pub returns-in-Sqrtm : goal.returns-in-Sqrtm
unfolding value_for value_report
returns-in-Sqrtm c =
    let a = c.args in
    let call = c.sqrtm_with.ensures in
    let both = chosen_one a.n (λ (x w : ℕ). sqrtm binary64 a.n a.n a.a.now x w) _ c.requires.0 c.requires.1 (call.one_output_with, call.report_value) in
    rw c.in-Sqrtm.is record { one_output_with = both.0; report_value = both.1 }

pub returns-in-Powm : goal.returns-in-Powm
unfolding value_for value_report
returns-in-Powm c =
    let a = c.args in
    let call = c.powm_with.ensures in
    let both = chosen_one a.n (λ (x w : ℕ). powm binary64 a.n a.n a.a.now x w a.p) _ c.requires.0 c.requires.1 (call.one_output_with, call.report_value) in
    rw c.in-Powm.is record { one_output_with = both.0; report_value = both.1 }

pub returns-in-Cosm : goal.returns-in-Cosm
unfolding value_for value_report
returns-in-Cosm c =
    let a = c.args in
    let call = c.cosm_with.ensures in
    let both = chosen_one a.n (λ (x w : ℕ). cosm binary64 a.n a.n a.a.now x w) _ c.requires.0 c.requires.1 (call.one_output_with, call.report_value) in
    rw c.in-Cosm.is record { one_output_with = both.0; report_value = both.1 }

pub returns-in-Sinm : goal.returns-in-Sinm
unfolding value_for value_report
returns-in-Sinm c =
    let a = c.args in
    let call = c.sinm_with.ensures in
    let both = chosen_one a.n (λ (x w : ℕ). sinm binary64 a.n a.n a.a.now x w) _ c.requires.0 c.requires.1 (call.one_output_with, call.report_value) in
    rw c.in-Sinm.is record { one_output_with = both.0; report_value = both.1 }
