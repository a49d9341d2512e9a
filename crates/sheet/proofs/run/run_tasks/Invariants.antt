-- `run_tasks` meets its contract: after k tasks their k lines are written, of at most `line_limit` bytes each. Assumes nothing.
use Prim.Native.Nat.{◌*◌, ◌≤◌}
use lib.Ieee.{binary64}
use Rattle.sheet.specs.Lines.{task_lines}
use Rattle.sheet_encoding.specs.Limits.{line_limit}
use Rattle.sheet_encoding.specs.Kernels.{Wrote}
use Rattle.sheet.proofs.run.run_tasks.Given as goal

abbrev pub invariant-loop-k : goal.invariant-loop-k
invariant-loop-k l = (l.at ≤ line_limit * l.k) × Wrote l.initial.out 0 (task_lines binary64 l.sheet.bytes.now l.sheet.counts.order l.sheet.counts.directions l.q l.k) l.out l.at
