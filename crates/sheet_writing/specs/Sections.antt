-- What a sheet is made of, its bytes, and what bytes are made of. Definitions only.
use Rattle.std.specs.Prelude.{ℕ, zero, suc, ◌+◌, ◌*◌, ◌/◌, ◌%◌, List, [], ◌∷◌, ◌++◌}
use Rattle.sheet_writing.specs.declared.sections.Sections.{Sections as Lent}
use Rattle.sheet_encoding.specs.Bytes.{byte_at, word_at}
use Rattle.sheet_encoding.specs.Parse.{directions_at, exponents_at, tasks_at}

-- the counts of the four sections; the numbers of A, of the directions and of the exponents, each as its 64 bits; of each task the code and the index
pub record Sections : Type 0 where
  pub order : ℕ
  pub matrix : List ℕ
  pub directions : ℕ
  pub direction : List ℕ
  pub exponents : ℕ
  pub exponent : List ℕ
  pub tasks : ℕ
  pub task : List ℕ

abbrev pub sections_of : ℕ → List ℕ → ℕ → List ℕ → ℕ → List ℕ → ℕ → List ℕ → Sections
sections_of n a d ds e es t ts = record { order = n; matrix = a; directions = d; direction = ds; exponents = e; exponent = es; tasks = t; task = ts }

-- those that a call is lent
abbrev pub given : Lent → Sections
given x = sections_of x.order x.matrix.now x.directions x.direction.now x.exponents x.exponent.now x.tasks x.task.now

-- ---- to bytes

-- the k lowest bytes of v, lowest first
unfoldable pub word_bytes : ℕ → ℕ → List ℕ
word_bytes zero v = []
word_bytes (suc k) v = v % 256 ∷ word_bytes k (v / 256)

-- 8 bytes for each number
unfoldable pub number_bytes : List ℕ → List ℕ
number_bytes [] = []
number_bytes (v ∷ l) = word_bytes 8 v ++ number_bytes l

-- each section is its count and what it counts
unfoldable pub sheet_bytes : Sections → List ℕ
sheet_bytes x =
    (x.order ∷ number_bytes x.matrix)
    ++ (x.directions ∷ number_bytes x.direction)
    ++ (x.exponents ∷ number_bytes x.exponent)
    ++ (x.tasks ∷ x.task)

-- ---- from bytes

-- k bytes of s from p on
unfoldable pub bytes_at : List ℕ → ℕ → ℕ → List ℕ
bytes_at s p zero = []
bytes_at s p (suc k) = byte_at s p ∷ bytes_at s (p + 1) k

-- k numbers of s from p on, as their bits
unfoldable pub words_at : List ℕ → ℕ → ℕ → List ℕ
words_at s p zero = []
words_at s p (suc k) = word_at 8 s p ∷ words_at s (p + 8) k

-- the sections of a sheet of order n with d directions, e exponents and t tasks
unfoldable pub sections : List ℕ → ℕ → ℕ → ℕ → ℕ → Sections
sections s n d e t =
    sections_of
    n (words_at s 1 (n * n))
    d (words_at s (directions_at n + 1) (d * (n * n)))
    e (words_at s (exponents_at n d + 1) e)
    t (bytes_at s (tasks_at n d e + 1) (2 * t))
