-- What the bytes of a sheet are: its order and the counts of its directions, exponents and tasks, or a refusal. It is read from left to right, and a byte's
-- presence is asked before its range. Definitions only.
use Rattle.std.specs.Prelude.{ℕ, zero, suc, ◌+◌, ◌*◌, ◌≤◌, ◌<◌, ◌≡◌, Bool, cond, ◌&&◌, ◌||◌, List, ltb, leb, eqb, length, Result, Ok, Err}
use Rattle.arithmetic_questions.specs.Result.{Found, refused}
use Rattle.sheet_encoding.specs.declared.parse.SheetRefusal.{SheetRefusal}
use Rattle.sheet_encoding.specs.declared.parse.SheetRefusal.TheVariants.{ByteMissingOrExtra, OutOfRange, WrongLength}
use Rattle.sheet_encoding.specs.declared.parse.Counts.{Counts}
use Rattle.sheet_encoding.specs.Limits.{task_limit, code_limit}
use Rattle.sheet_encoding.specs.Bytes.{byte_at}

-- document 01's number of a sheet's refusal, with the position of the byte, or the lengths found and wanted
abbrev pub sheet_numbered : SheetRefusal → Found
sheet_numbered (ByteMissingOrExtra p) = refused 15 p 0
sheet_numbered (OutOfRange p) = refused 16 p 0
sheet_numbered (WrongLength x y) = refused 5 x y

-- ---- where the four sections stand: each is a count byte and the items that it counts

-- the bytes of an n by n matrix
abbrev pub matrix_size : ℕ → ℕ
matrix_size n = 8 * (n * n)

-- the order stands at 0, its matrix at 1; after it the count of the directions, and direction i
abbrev pub directions_at : ℕ → ℕ
directions_at n = 1 + matrix_size n

abbrev pub direction_at : ℕ → ℕ → ℕ
direction_at n i = directions_at n + 1 + i * matrix_size n

-- after d directions the count of the exponents, and exponent i
abbrev pub exponents_at : ℕ → ℕ → ℕ
exponents_at n d = direction_at n d

abbrev pub exponent_at : ℕ → ℕ → ℕ → ℕ
exponent_at n d i = exponents_at n d + 1 + i * 8

-- after e exponents the count of the tasks, and task k
abbrev pub tasks_at : ℕ → ℕ → ℕ → ℕ
tasks_at n d e = exponent_at n d e

abbrev pub task_at : ℕ → ℕ → ℕ → ℕ → ℕ
task_at n d e k = tasks_at n d e + 1 + 2 * k

-- after t tasks the sheet ends
abbrev pub sheet_length : ℕ → ℕ → ℕ → ℕ → ℕ
sheet_length n d e t = task_at n d e t

-- ---- bytes that are read

-- a number that is read, or why the sheet is refused
abbrev pub Read : Type 0
Read = Result ℕ SheetRefusal

-- v, the value of the byte at p, has to lie from lo up to, not including, hi
abbrev pub value_in : ℕ → ℕ → ℕ → ℕ → Read
value_in v p lo hi = cond (leb lo v) (cond (ltb v hi) (Ok v) (Err (OutOfRange p))) (Err (OutOfRange p))

-- the byte at p has to be there, and then to lie in its range
unfoldable pub byte_in : List ℕ → ℕ → ℕ → ℕ → Read
byte_in s p lo hi = cond (ltb p (length s)) (value_in (byte_at s p) p lo hi) (Err (ByteMissingOrExtra p))

-- v, where k bytes from p on are there
abbrev pub bytes_after : List ℕ → ℕ → ℕ → ℕ → Read
bytes_after s p k v = cond (leb (p + k) (length s)) (Ok v) (Err (ByteMissingOrExtra (length s)))

-- go on with the value, or stop
abbrev pub then_read : {A : Type 0} → Read → (ℕ → Result A SheetRefusal) → Result A SheetRefusal
then_read (Ok v) k = k v
then_read (Err why) k = Err why

-- a count byte at p, from 0 to 8, and its items, each of `size` bytes: the count
unfoldable pub section : List ℕ → ℕ → ℕ → Read
section s p size = then_read (byte_in s p 0 9) (λ v. bytes_after s (p + 1) (v * size) v)

-- ---- the four sections

-- the order, from 1 to 8, and its matrix
unfoldable pub order : List ℕ → Read
order s = then_read (byte_in s 0 1 9) (λ n. bytes_after s 1 (matrix_size n) n)

-- the directions, from 0 to 8 of n by n numbers
abbrev pub direction_count : List ℕ → ℕ → Read
direction_count s n = section s (directions_at n) (matrix_size n)

-- the exponents, from 0 to 8
abbrev pub exponent_count : List ℕ → ℕ → ℕ → Read
exponent_count s n d = section s (exponents_at n d) 8

-- the tasks, from 1 to 16: their count, and below each of them
abbrev pub task_count : List ℕ → ℕ → ℕ → ℕ → Read
task_count s n d e = byte_in s (tasks_at n d e) 1 (suc task_limit)

-- the codes whose index names a direction: 6 to 8, and 10
abbrev pub takes_direction : ℕ → Bool
takes_direction code = eqb code 10 || (leb 6 code && leb code 8)

-- how many values the index of a task may have: it names an exponent for code 3, a direction where `takes_direction` says so, and is 0 otherwise
abbrev pub index_limit : ℕ → ℕ → ℕ → ℕ
index_limit code d e = cond (eqb code 3) e (cond (takes_direction code) d 1)

-- the task at q: its code, and its index
unfoldable pub task : List ℕ → ℕ → ℕ → ℕ → Read
task s q d e = then_read (byte_in s q 0 code_limit) (λ code. byte_in s (q + 1) 0 (index_limit code d e))

-- k tasks from q on
unfoldable pub tasks : List ℕ → ℕ → ℕ → ℕ → ℕ → Read
tasks s q d e zero = Ok 0
tasks s q d e (suc k) = then_read (task s q d e) (λ _. tasks s (q + 2) d e k)

-- ---- one section after the other

-- the counts of a sheet, or why it is refused
abbrev pub Parse : Type 0
Parse = Result Counts SheetRefusal

abbrev pub counts_of : ℕ → ℕ → ℕ → ℕ → Counts
counts_of n d e t = record { order = n; directions = d; exponents = e; tasks = t }

-- nothing follows the tasks
unfoldable pub parse_end : List ℕ → ℕ → ℕ → ℕ → ℕ → Parse
parse_end s n d e t = cond (leb (length s) (sheet_length n d e t)) (Ok (counts_of n d e t)) (Err (ByteMissingOrExtra (sheet_length n d e t)))

-- the t tasks, and the end
unfoldable pub parse_each : List ℕ → ℕ → ℕ → ℕ → ℕ → Parse
parse_each s n d e t = then_read (tasks s (tasks_at n d e + 1) d e t) (λ _. parse_end s n d e t)

-- the section of the tasks
unfoldable pub parse_tasks : List ℕ → ℕ → ℕ → ℕ → Parse
parse_tasks s n d e = then_read (task_count s n d e) (λ t. parse_each s n d e t)

-- the section of the exponents, and what follows
unfoldable pub parse_exponents : List ℕ → ℕ → ℕ → Parse
parse_exponents s n d = then_read (exponent_count s n d) (λ e. parse_tasks s n d e)

-- the section of the directions, and what follows
unfoldable pub parse_directions : List ℕ → ℕ → Parse
parse_directions s n = then_read (direction_count s n) (λ d. parse_exponents s n d)

-- a whole sheet
unfoldable pub parse_sheet : List ℕ → Parse
parse_sheet s = then_read (order s) (λ n. parse_directions s n)

-- ---- an accepted sheet

-- the task at q has a code and an index in range
pub record TaskIs (s : List ℕ) (q d e : ℕ) : Type 0 where
  pub code : byte_at s q < code_limit
  pub index : byte_at s (q + 1) < index_limit (byte_at s q) d e

-- The sheets of order n with d directions, e exponents and t tasks that are accepted, and no others (`sheet_is` and `is_sheet` in proofs/ParseLaws.antt): the
-- four count bytes with their ranges, every task, and the length.
pub record SheetIs (s : List ℕ) (n d e t : ℕ) : Type 0 where
  pub order_byte : byte_at s 0 ≡ n
  pub least : 1 ≤ n
  pub most : n ≤ 8
  pub directions_byte : byte_at s (directions_at n) ≡ d
  pub directions : d ≤ 8
  pub exponents_byte : byte_at s (exponents_at n d) ≡ e
  pub exponents : e ≤ 8
  pub tasks_byte : byte_at s (tasks_at n d e) ≡ t
  pub some : 1 ≤ t
  pub count : t ≤ task_limit
  pub each : (k : ℕ) → k < t → TaskIs s (task_at n d e k) d e
  pub long : length s ≡ sheet_length n d e t
