-- What is written for sections, by computation: document 01's 46 bytes, and the refusals of counts, codes, indices and lengths.
use Rattle.std.specs.Prelude.{ℕ, ◌≡◌, refl, true, List, [], ◌∷◌}
use Rattle.arithmetic_questions.specs.Result.{◌>>=◌}
use Rattle.sheet_encoding.specs.Bytes.{word_at}
use Rattle.sheet_writing.specs.Sections.{Sections, sections_of, word_bytes, number_bytes, sheet_bytes, bytes_at, words_at, sections}
use Rattle.sheet_writing.specs.Written.{given_task, given_tasks, task_ranges, ranges, lengths, questions, written}
use Rattle.samples.specs.Shown.{Line, shown, hold}
use Rattle.samples.specs.Sheets.{bytes}

-- A = [[1, 1], [0, 1]] and the exponent 3.0
abbrev matrix : List ℕ
matrix = 0x3ff0000000000000 ∷ 0x3ff0000000000000 ∷ 0 ∷ 0x3ff0000000000000 ∷ []

abbrev exponent : List ℕ
exponent = 0x4008000000000000 ∷ []

-- with the task powm: document 01's 46 bytes
abbrev shear : Sections
shear = sections_of 2 matrix 0 [] 1 exponent 1 (3 ∷ 0 ∷ [])

-- order n with d directions, e exponents and t tasks, ts, and no numbers
abbrev empty : ℕ → ℕ → ℕ → ℕ → List ℕ → Sections
empty n d e t ts = sections_of n [] d [] e [] t ts

-- shear with these tasks, and with this exponent
abbrev tasked : ℕ → List ℕ → Sections
tasked t ts = sections_of 2 matrix 0 [] 1 exponent t ts

abbrev powered : ℕ → Sections
powered x = sections_of 2 matrix 0 [] 1 (x ∷ []) 1 (3 ∷ 0 ∷ [])

abbrev into : ℕ → Sections → List ℕ
into room x = shown (λ s. s) (written x room)

-- What is written, and refusals, in this order:
--     the 46 bytes, into as many and into more
--     5 45 46     into 45
--     16 0        order 0, order 9, order 300 beside a wrong code
--     16 9        9 directions of order 1; 16 10 9 exponents without one; 16 11 no task, and 17 tasks
--     16 44       code 11; the same where its index is not there
--     16 45       code 6 without a direction; code 3 with index 1 of one
--     16 46       the second task's code; the same of a slice that ends with it
--     5 0 4       A, where there are none of its numbers; a wrong code past the count is not asked
--     5 3 2       tasks: one byte more than the count says
--     5 2 4       tasks: fewer than the count says
--     the bits of a signalling NaN as an exponent, read back
unfoldable pub writer_table : List Line
writer_table =
    (1 ∷ 0 ∷ bytes, into 46 shear)
    ∷ (1 ∷ 0 ∷ bytes, into 100 shear)
    ∷ (0 ∷ 5 ∷ 45 ∷ 46 ∷ [], into 45 shear)
    ∷ (0 ∷ 16 ∷ 0 ∷ 0 ∷ [], into 0 (empty 0 0 0 1 (0 ∷ 0 ∷ [])))
    ∷ (0 ∷ 16 ∷ 0 ∷ 0 ∷ [], into 0 (empty 9 0 0 1 (0 ∷ 0 ∷ [])))
    ∷ (0 ∷ 16 ∷ 0 ∷ 0 ∷ [], into 0 (empty 300 0 0 1 (77 ∷ 0 ∷ [])))
    ∷ (0 ∷ 16 ∷ 9 ∷ 0 ∷ [], into 0 (empty 1 9 0 1 (0 ∷ 0 ∷ [])))
    ∷ (0 ∷ 16 ∷ 10 ∷ 0 ∷ [], into 0 (empty 1 0 9 1 (0 ∷ 0 ∷ [])))
    ∷ (0 ∷ 16 ∷ 11 ∷ 0 ∷ [], into 0 (empty 1 0 0 0 []))
    ∷ (0 ∷ 16 ∷ 11 ∷ 0 ∷ [], into 0 (empty 1 0 0 17 (77 ∷ [])))
    ∷ (0 ∷ 16 ∷ 44 ∷ 0 ∷ [], into 46 (tasked 1 (11 ∷ 0 ∷ [])))
    ∷ (0 ∷ 16 ∷ 44 ∷ 0 ∷ [], into 46 (tasked 1 (11 ∷ [])))
    ∷ (0 ∷ 16 ∷ 45 ∷ 0 ∷ [], into 46 (tasked 1 (6 ∷ 0 ∷ [])))
    ∷ (0 ∷ 16 ∷ 45 ∷ 0 ∷ [], into 46 (tasked 1 (3 ∷ 1 ∷ [])))
    ∷ (0 ∷ 16 ∷ 46 ∷ 0 ∷ [], into 46 (tasked 2 (3 ∷ 0 ∷ 11 ∷ 0 ∷ [])))
    ∷ (0 ∷ 16 ∷ 46 ∷ 0 ∷ [], into 46 (tasked 2 (3 ∷ 0 ∷ 11 ∷ [])))
    ∷ (0 ∷ 5 ∷ 0 ∷ 4 ∷ [], into 46 (empty 2 0 1 1 (3 ∷ 0 ∷ 77 ∷ [])))
    ∷ (0 ∷ 5 ∷ 3 ∷ 2 ∷ [], into 46 (tasked 1 (3 ∷ 0 ∷ 77 ∷ [])))
    ∷ (0 ∷ 5 ∷ 2 ∷ 4 ∷ [], into 48 (tasked 2 (3 ∷ 0 ∷ [])))
    ∷ (0xfff0000000000001 ∷ [], (sections (sheet_bytes (powered 0xfff0000000000001)) 2 0 1 1).exponent)
    ∷ []

pub writer_holds : hold writer_table ≡ true
unfolding writer_table word_at word_bytes number_bytes sheet_bytes bytes_at words_at sections given_task given_tasks task_ranges ranges lengths questions written ◌>>=◌
writer_holds = refl
