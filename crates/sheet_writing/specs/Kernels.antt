-- What the functions that write sections ask for and pass on. Only the contracts of kernels cite it. Definitions only.
use Rattle.std.specs.Prelude.{ℕ, ◌*◌, ◌^◌, ◌≤◌, ◌≡◌, length}
use Rattle.sheet_encoding.specs.Limits.{task_limit}
use Rattle.sheet_encoding.specs.Parse.{sheet_length}
use Rattle.sheet_writing.specs.Sections.{Sections}
use Rattle.sheet_writing.specs.Written.{Below}

-- the counts are in their ranges
pub record InRange (x : Sections) : Type 0 where
  pub least : 1 ≤ x.order
  pub most : x.order ≤ 8
  pub directions : x.directions ≤ 8
  pub exponents : x.exponents ≤ 8
  pub some : 1 ≤ x.tasks
  pub count : x.tasks ≤ task_limit

-- the slices have the lengths that the counts say, and an output of `room` bytes has room for the sheet
pub record SheetRoom (x : Sections) (room : ℕ) : Type 0 where
  pub range : InRange x
  pub matrix : length x.matrix ≡ x.order * x.order
  pub direction : length x.direction ≡ x.directions * (x.order * x.order)
  pub exponent : length x.exponent ≡ x.exponents
  pub task : length x.task ≡ 2 * x.tasks
  pub output : sheet_length x.order x.directions x.exponents x.tasks ≤ room

-- each number is one of 64 bits
pub record Words (x : Sections) : Type 0 where
  pub matrix : Below (256 ^ 8) x.matrix
  pub direction : Below (256 ^ 8) x.direction
  pub exponent : Below (256 ^ 8) x.exponent
