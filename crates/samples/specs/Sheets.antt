-- The lines of sheets, by computation: document 01's 46 bytes, and the refusals of what is cut off, added or changed in them.
use Rattle.std.specs.Prelude.{ℕ, ◌≡◌, refl, true, List, [], ◌∷◌, ◌++◌, take, set}
use Rattle.std.specs.Float.{binary64}
use Rattle.sheet_encoding.specs.Bytes.{word_at, number_at, numbers_at}
use Rattle.sheet_encoding.specs.Text.{hex_digits, decimal_in, decimal, number_text, numbers_text, details_text, refused_line, done_head, done_line, result_line, carrying}
use Rattle.sheet_encoding.specs.Parse.{byte_in, section, order, task, tasks, parse_end, parse_each, parse_tasks, parse_exponents, parse_directions, parse_sheet}
use Rattle.sheet_tasks.specs.Tasks.{value_for, value_report, derivative_for, derivative_report, both, ratio, task_result, task_report, ending}
use Rattle.sheet.specs.Lines.{task_lines, lines_of, sheet_lines}
use Rattle.samples.specs.Shown.{Line, hold}
use Rattle.samples.specs.Opened.{all}

-- 0.0, 1.0 and 3.0
abbrev zero : List ℕ
zero = 0 ∷ 0 ∷ 0 ∷ 0 ∷ 0 ∷ 0 ∷ 0 ∷ 0 ∷ []

abbrev one : List ℕ
one = 0 ∷ 0 ∷ 0 ∷ 0 ∷ 0 ∷ 0 ∷ 240 ∷ 63 ∷ []

abbrev three : List ℕ
three = 0 ∷ 0 ∷ 0 ∷ 0 ∷ 0 ∷ 0 ∷ 8 ∷ 64 ∷ []

-- order 2, A = [[1, 1], [0, 1]], no direction, the exponent 3.0, and the task powm with it
abbrev pub bytes : List ℕ
bytes = (2 ∷ []) ++ one ++ one ++ zero ++ one ++ (0 ∷ 1 ∷ []) ++ three ++ (1 ∷ 3 ∷ 0 ∷ [])

-- What is written for a sheet, in this order:
--     1 ok 0 3ff0000000000000 4008000000000000 0000000000000000 3ff0000000000000 7ff0000000000000
--     0 no 15 0 0      of no byte
--     0 no 15 40 0     of 40 bytes
--     0 no 15 45 0     of 45 bytes
--     0 no 15 46 0     with one more
--     0 no 16 0 0      of order 9
--     0 no 16 33 0     of 9 directions
--     0 no 16 44 0     with code 11
--     0 no 16 45 0     with code 6 and no direction
--     0 no 16 45 0     with code 10 and no direction
--     0 no 16 45 0     with exponent 1 of one
--     1 no 6 0 0       with an infinity in the first entry
--     1 no 17 80 0     with 2^80 in the first entry and the task expm
--     1 ok 0 3ff0000000000000 3ff8000000000000 7ff0000000000000
--                      of order 1: 1 in the direction 3, code 10
unfoldable pub sheet_table : List Line
sheet_table =
    (49 ∷ 32 ∷ 111 ∷ 107 ∷ 32 ∷ 48 ∷ 32 ∷ 51 ∷ 102 ∷ 102 ∷ 48 ∷ 48 ∷ 48 ∷ 48 ∷ 48 ∷ 48 ∷ 48 ∷ 48 ∷ 48 ∷ 48 ∷ 48 ∷ 48 ∷ 48 ∷ 32 ∷ 52 ∷ 48 ∷ 48 ∷ 56 ∷ 48 ∷ 48 ∷ 48 ∷ 48 ∷ 48 ∷ 48 ∷ 48 ∷ 48 ∷ 48 ∷ 48 ∷ 48 ∷ 48 ∷ 32 ∷ 48 ∷ 48 ∷ 48 ∷ 48 ∷ 48 ∷ 48 ∷ 48 ∷ 48 ∷ 48 ∷ 48 ∷ 48 ∷ 48 ∷ 48 ∷ 48 ∷ 48 ∷ 48 ∷ 32 ∷ 51 ∷ 102 ∷ 102 ∷ 48 ∷ 48 ∷ 48 ∷ 48 ∷ 48 ∷ 48 ∷ 48 ∷ 48 ∷ 48 ∷ 48 ∷ 48 ∷ 48 ∷ 48 ∷ 32 ∷ 55 ∷ 102 ∷ 102 ∷ 48 ∷ 48 ∷ 48 ∷ 48 ∷ 48 ∷ 48 ∷ 48 ∷ 48 ∷ 48 ∷ 48 ∷ 48 ∷ 48 ∷ 48 ∷ 10 ∷ [], sheet_lines binary64 bytes)
    ∷ (48 ∷ 32 ∷ 110 ∷ 111 ∷ 32 ∷ 49 ∷ 53 ∷ 32 ∷ 48 ∷ 32 ∷ 48 ∷ 10 ∷ [], sheet_lines binary64 [])
    ∷ (48 ∷ 32 ∷ 110 ∷ 111 ∷ 32 ∷ 49 ∷ 53 ∷ 32 ∷ 52 ∷ 48 ∷ 32 ∷ 48 ∷ 10 ∷ [], sheet_lines binary64 (take 40 bytes))
    ∷ (48 ∷ 32 ∷ 110 ∷ 111 ∷ 32 ∷ 49 ∷ 53 ∷ 32 ∷ 52 ∷ 53 ∷ 32 ∷ 48 ∷ 10 ∷ [], sheet_lines binary64 (take 45 bytes))
    ∷ (48 ∷ 32 ∷ 110 ∷ 111 ∷ 32 ∷ 49 ∷ 53 ∷ 32 ∷ 52 ∷ 54 ∷ 32 ∷ 48 ∷ 10 ∷ [], sheet_lines binary64 (bytes ++ (7 ∷ [])))
    ∷ (48 ∷ 32 ∷ 110 ∷ 111 ∷ 32 ∷ 49 ∷ 54 ∷ 32 ∷ 48 ∷ 32 ∷ 48 ∷ 10 ∷ [], sheet_lines binary64 (set bytes 0 9))
    ∷ (48 ∷ 32 ∷ 110 ∷ 111 ∷ 32 ∷ 49 ∷ 54 ∷ 32 ∷ 51 ∷ 51 ∷ 32 ∷ 48 ∷ 10 ∷ [], sheet_lines binary64 (set bytes 33 9))
    ∷ (48 ∷ 32 ∷ 110 ∷ 111 ∷ 32 ∷ 49 ∷ 54 ∷ 32 ∷ 52 ∷ 52 ∷ 32 ∷ 48 ∷ 10 ∷ [], sheet_lines binary64 (set bytes 44 11))
    ∷ (48 ∷ 32 ∷ 110 ∷ 111 ∷ 32 ∷ 49 ∷ 54 ∷ 32 ∷ 52 ∷ 53 ∷ 32 ∷ 48 ∷ 10 ∷ [], sheet_lines binary64 (set bytes 44 6))
    ∷ (48 ∷ 32 ∷ 110 ∷ 111 ∷ 32 ∷ 49 ∷ 54 ∷ 32 ∷ 52 ∷ 53 ∷ 32 ∷ 48 ∷ 10 ∷ [], sheet_lines binary64 (set bytes 44 10))
    ∷ (48 ∷ 32 ∷ 110 ∷ 111 ∷ 32 ∷ 49 ∷ 54 ∷ 32 ∷ 52 ∷ 53 ∷ 32 ∷ 48 ∷ 10 ∷ [], sheet_lines binary64 (set bytes 45 1))
    ∷ (49 ∷ 32 ∷ 110 ∷ 111 ∷ 32 ∷ 54 ∷ 32 ∷ 48 ∷ 32 ∷ 48 ∷ 10 ∷ [], sheet_lines binary64 (set bytes 8 127))
    ∷ (49 ∷ 32 ∷ 110 ∷ 111 ∷ 32 ∷ 49 ∷ 55 ∷ 32 ∷ 56 ∷ 48 ∷ 32 ∷ 48 ∷ 10 ∷ [], sheet_lines binary64 (set (set bytes 8 68) 44 0))
    ∷ (49 ∷ 32 ∷ 111 ∷ 107 ∷ 32 ∷ 48 ∷ 32 ∷ 51 ∷ 102 ∷ 102 ∷ 48 ∷ 48 ∷ 48 ∷ 48 ∷ 48 ∷ 48 ∷ 48 ∷ 48 ∷ 48 ∷ 48 ∷ 48 ∷ 48 ∷ 48 ∷ 32 ∷ 51 ∷ 102 ∷ 102 ∷ 56 ∷ 48 ∷ 48 ∷ 48 ∷ 48 ∷ 48 ∷ 48 ∷ 48 ∷ 48 ∷ 48 ∷ 48 ∷ 48 ∷ 48 ∷ 32 ∷ 55 ∷ 102 ∷ 102 ∷ 48 ∷ 48 ∷ 48 ∷ 48 ∷ 48 ∷ 48 ∷ 48 ∷ 48 ∷ 48 ∷ 48 ∷ 48 ∷ 48 ∷ 48 ∷ 10 ∷ [], sheet_lines binary64 ((1 ∷ []) ++ one ++ (1 ∷ []) ++ three ++ (0 ∷ 1 ∷ 10 ∷ 0 ∷ [])))
    ∷ []

pub sheets_hold : hold sheet_table ≡ true
unfolding sheet_table all word_at number_at numbers_at hex_digits decimal_in decimal number_text numbers_text details_text refused_line done_head done_line result_line carrying byte_in section order task tasks parse_end parse_each parse_tasks parse_exponents parse_directions parse_sheet value_for value_report derivative_for derivative_report both ratio task_result task_report ending task_lines lines_of sheet_lines
sheets_hold = refl
