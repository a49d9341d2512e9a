-- The limits of a sheet and of what is written for it. Definitions only.
use Rattle.std.specs.Prelude.{ℕ}

-- a sheet has at most so many tasks
abbrev pub task_limit : ℕ
task_limit = 16

-- the codes are those below
abbrev pub code_limit : ℕ
code_limit = 11

-- The most bytes of a line: 2 digits of a task's number, 3 bytes for ` ok`, a space and 2 digits of halvings, 128 numbers of the outputs and the one of the
-- report, each of 17 bytes with its space, and the newline.
abbrev pub line_limit : ℕ
line_limit = 2202

-- the bytes of output that the entry asks for: there is room for the most lines of the most bytes
abbrev pub output_limit : ℕ
output_limit = 35500
