-- What the writer asks of sections, what it writes, and how that is read back. Definitions only.
use Rattle.std.specs.Prelude.{ℕ, zero, suc, ◌+◌, ◌*◌, ◌≤◌, ◌<◌, ◌≡◌, cond, List, [], ◌∷◌, ◌++◌, ltb, leb, eqb, length, take, drop, get_or, Ok, Err}
use Rattle.arithmetic_questions.specs.Result.{Result, Found, refused, done, passes, exit, ◌>>=◌}
use Rattle.sheet_encoding.specs.declared.parse.SheetRefusal.TheVariants.{WrongLength}
use Rattle.sheet_encoding.specs.Limits.{task_limit, code_limit}
use Rattle.sheet_encoding.specs.Bytes.{byte_at}
use Rattle.sheet_encoding.specs.Parse.{Read, sheet_numbered, counts_of, value_in, then_read, index_limit, directions_at, exponents_at, tasks_at, sheet_length, parse_sheet}
use Rattle.sheet_writing.specs.Sections.{Sections, sheet_bytes, sections}

-- ---- 16: is each count, code and index in its range? The first from the left that is not is named by the position that its byte would have.

-- byte j of the tasks, which would stand at p, where the slice reaches it, lies below hi
abbrev pub given_in : List ℕ → ℕ → ℕ → ℕ → Read
given_in ts j p hi = cond (ltb j (length ts)) (value_in (byte_at ts j) p 0 hi) (Ok 0)

-- the task at j of the tasks, the first of which would stand at q: its code, and its index
unfoldable pub given_task : List ℕ → ℕ → ℕ → ℕ → ℕ → Read
given_task ts q d e j = then_read (given_in ts j (q + j) code_limit) (λ code. given_in ts (j + 1) (q + j + 1) (index_limit code d e))

-- k tasks from j on
unfoldable pub given_tasks : List ℕ → ℕ → ℕ → ℕ → ℕ → ℕ → Read
given_tasks ts q d e j zero = Ok 0
given_tasks ts q d e j (suc k) = then_read (given_task ts q d e j) (λ _. given_tasks ts q d e (j + 2) k)

-- the count of the tasks, and the tasks as far as it and the slice reach
unfoldable pub task_ranges : ℕ → List ℕ → ℕ → ℕ → ℕ → Read
task_ranges count ts n d e = then_read (value_in count (tasks_at n d e) 1 (suc task_limit)) λ t. given_tasks ts (tasks_at n d e + 1) d e 0 t

-- from the order to the last index
unfoldable pub ranges : Sections → Read
ranges x =
    then_read (value_in x.order 0 1 9) λ n.
    then_read (value_in x.directions (directions_at n) 0 9) λ d.
    then_read (value_in x.exponents (exponents_at n d) 0 9) λ e.
    task_ranges x.tasks x.task n d e

-- ---- 5: has each slice the length that the counts say, and has the output, of `room` bytes, room for the sheet?

-- a length that has to be the one wanted
abbrev pub exactly : ℕ → ℕ → Read
exactly wanted found = cond (eqb found wanted) (Ok found) (Err (WrongLength found wanted))

-- a length that has to be the one wanted, or more
abbrev pub at_least : ℕ → ℕ → Read
at_least wanted found = cond (leb wanted found) (Ok found) (Err (WrongLength found wanted))

-- from A to the output
unfoldable pub lengths : Sections → ℕ → Read
lengths x room =
    then_read (exactly (x.order * x.order) (length x.matrix)) λ _.
    then_read (exactly (x.directions * (x.order * x.order)) (length x.direction)) λ _.
    then_read (exactly x.exponents (length x.exponent)) λ _.
    then_read (exactly (2 * x.tasks) (length x.task)) λ _.
    at_least (sheet_length x.order x.directions x.exponents x.tasks) room

-- all of 16 before all of 5
unfoldable pub questions : Sections → ℕ → Read
questions x room = then_read (ranges x) (λ _. lengths x room)

-- ---- what is written for the sections x into an output of `room` bytes

-- what the questions find, and what a call answers: a refusal by its number, or they pass
abbrev pub found : Read → Found
found (Ok v) = passes
found (Err why) = sheet_numbered why

-- the bytes of the sheet, or the refusal
unfoldable pub written : Sections → ℕ → Result (List ℕ)
written x room = found (questions x room) >>= λ _. done 0 (sheet_bytes x)

-- ---- what a call answers: the length, or a refusal

-- the length, and 0 beside a refusal; a sheet has at least 14 bytes
abbrev pub length_by : Read → ℕ
length_by (Ok k) = k
length_by (Err why) = 0

-- what the exported entry leaves in its three numbers: a refusal's number and details, or zeros
abbrev pub why_of : Found → List ℕ
why_of (refused k x y) = k ∷ x ∷ y ∷ []
why_of (done s a) = 0 ∷ 0 ∷ 0 ∷ []

-- ---- what a caller may rely on

-- each number of the list is below h; a place past its end reads as 0
abbrev pub Below : ℕ → List ℕ → Type 0
Below h l = (i : ℕ) → get_or l i 0 < h

-- s is a sheet that the reader accepts, and x its sections, bit for bit
pub record ReadAs (s : List ℕ) (x : Sections) : Type 0 where
  pub accepted : parse_sheet s ≡ Ok (counts_of x.order x.directions x.exponents x.tasks)
  pub same : sections s x.order x.directions x.exponents x.tasks ≡ x

-- The writer was given the sections x and the output `out`, left it as `out'`, and reported the length k, 0 where it refused. The output begins with what is
-- written, and is as it was after that, or all of it after a refusal. What was written is read as the sections that were given. And where these are the
-- sections of an accepted sheet s, for which there is room, it is s that was written.
pub record WroteSheet (x : Sections) (out out' : List ℕ) (k : ℕ) : Type 0 where
  pub long : k ≡ exit length (written x (length out)) 0
  pub bytes : out' ≡ exit (λ s. s ++ drop (length s) out) (written x (length out)) out
  pub read_back : 0 < k → ReadAs (take k out') x
  pub written_back : (s : List ℕ) → Below 256 s → ReadAs s x → length s ≤ length out → (k ≡ length s) × (out' ≡ s ++ drop (length s) out)
