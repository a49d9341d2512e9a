-- What running all tasks of a sheet asks for. Only the contracts of kernels cite it. Definitions only.
use Rattle.std.specs.Prelude.{ℕ, ◌+◌, ◌*◌, ◌≤◌, ◌<◌, ◌≡◌, List, length, Float}
use Rattle.sheet_encoding.specs.Limits.{task_limit, output_limit}
use Rattle.sheet_tasks.specs.declared.task.Sheet.{Sheet}
use Rattle.sheet_tasks.specs.Tasks.{workspace_length}
use Rattle.sheet_tasks.specs.Kernels.{TaskReady, SheetMatrix}

-- what running the tasks of the sheet x from q on asks for: they are ready, the matrix is the sheet's, there is room
pub record TasksRoom (x : Sheet) (q : ℕ) (out : List ℕ) (w : List Float) : Type 0 where
  pub ready : (k : ℕ) → k < x.counts.tasks → TaskReady x.bytes.now (q + 2 * k) x.counts.order x.counts.directions
  pub few : x.counts.tasks ≤ task_limit
  pub order : x.counts.order ≤ 8
  pub matrix : SheetMatrix x
  pub space : output_limit ≤ length out
  pub workspace : length w ≡ workspace_length
