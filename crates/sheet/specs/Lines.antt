-- The lines of a sheet, and what the entry that runs it writes. Definitions only.
use Rattle.std.specs.Prelude.{ℕ, zero, suc, ◌+◌, ◌≤◌, ◌<◌, ◌≡◌, List, [], ◌++◌, length, drop, Ok, Err}
use Rattle.std.specs.Float.{Format}
use Rattle.sheet_encoding.specs.declared.parse.Counts.{Counts}
use Rattle.sheet_encoding.specs.Text.{result_line, carrying}
use Rattle.sheet_encoding.specs.Limits.{output_limit}
use Rattle.sheet_encoding.specs.Parse.{Parse, sheet_numbered, tasks_at, parse_sheet}
use Rattle.sheet_tasks.specs.Tasks.{task_line}

-- the first k tasks of those from q on
unfoldable pub task_lines : Format → List ℕ → ℕ → ℕ → ℕ → ℕ → List ℕ
task_lines f s n d q zero = []
task_lines f s n d q (suc k) = task_lines f s n d q k ++ task_line f s n d q k

-- all tasks of a sheet with these counts
abbrev pub counted_lines : Format → List ℕ → Counts → List ℕ
counted_lines f s c = task_lines f s c.order c.directions (tasks_at c.order c.directions c.exponents + 1) c.tasks

-- a refused sheet has one line, with task number 0
unfoldable pub lines_of : Format → List ℕ → Parse → List ℕ
lines_of f s (Ok c) = counted_lines f s c
lines_of f s (Err why) = result_line f 0 (carrying [] (sheet_numbered why))

-- all that is written for the sheet s
unfoldable pub sheet_lines : Format → List ℕ → List ℕ
sheet_lines f s = lines_of f s (parse_sheet s)

-- ---- the entry

-- An output of fewer than `output_limit` bytes is left as it was, and 0 reported. Any other begins with the lines, and is as it was after them. There are
-- never more than `output_limit` bytes of lines.
pub record Entered (f : Format) (s out out' : List ℕ) (r : ℕ) : Type 0 where
  pub refused : length out < output_limit → (r ≡ 0) × (out' ≡ out)
  pub written : output_limit ≤ length out → (r ≡ length (sheet_lines f s)) × (out' ≡ sheet_lines f s ++ drop (length (sheet_lines f s)) out)
  pub within : r ≤ length out
  pub short : r ≤ output_limit
