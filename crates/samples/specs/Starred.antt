-- The lines of the trial bench that document 01 marks as proved: one table over the format, one claim. The claim at binary32 is that of samples_single.
use Rattle.std.specs.Prelude.{ℕ, ◌^◌, ◌≡◌, refl, true, false, cond, List, [], ◌∷◌, ◌++◌, map, ℤ, pos, negsuc, Float}
use Rattle.std.specs.Float.{Format, binary64, fin}
use Rattle.std.specs.Float.Ieee.{of_bits, round}
use Rattle.arithmetic_floats.specs.Float.{+zero, halvings, integer_of}
use Rattle.arithmetic_matrices.specs.Matrix.{tab}
use Rattle.arithmetic_questions.specs.Result.{◌>>=◌}
use Rattle.lu.specs.Calls.{Factorisation, compute, determinant}
use Rattle.functions_definitions.specs.Powers.{is_whole}
use Rattle.functions_definitions.specs.Calls.{expm, logm, sqrtm, frechet_expm}
use Rattle.samples.specs.Shown.{Line, hold, shown, bits, both, number, factors_and_pivots}
use Rattle.samples.specs.Opened.{all}

-- ---- whole exponents

-- 1 and the whole number that p is taken for (0 and its magnitude less one, where that is negative), or nothing
abbrev signed : ℤ → List ℕ
signed (pos k) = 1 ∷ k ∷ []
signed (negsuc k) = 0 ∷ k ∷ []

-- the test is binary64's in both formats
abbrev pub integer : Float → List ℕ
integer p = cond (is_whole p) (signed (integer_of binary64 p)) []

-- ---- what depends on the format
pub record Numbers : Type 0 where
  -- bits of the next number above 1 and of the largest finite number, and the halvings of the latter
  pub above_one : ℕ
  pub largest : ℕ
  pub most : ℕ
  -- what 1e-14, rounded to the format, is taken for
  pub limit : List ℕ
  -- the pivot that LU just refuses at order 2 is 2 ^ -edge; bits of the next number above it
  pub edge : ℕ
  pub above_edge : ℕ

-- ---- the table
module _ (f : Format) (v : Numbers) where
  abbrev whole : ℕ → Float
  whole n = round f false n 1

  abbrev minus : ℕ → Float
  minus n = round f true n 1

  abbrev -zero : Float
  -zero = fin true 0 (pos 0)

  abbrev threes : List Float
  threes = whole 3 ∷ whole 3 ∷ whole 3 ∷ []

  abbrev zeros : List Float
  zeros = +zero ∷ +zero ∷ +zero ∷ +zero ∷ []

  unfoldable pub table : List Line
  table =
      -- expm 0 by 3: 1; 2 by 3: 2 (2, 3)
      (0 ∷ 1 ∷ 0 ∷ 0 ∷ [], shown (bits f) (expm f 0 3 [] 0 8192))
      ∷ (0 ∷ 2 ∷ 2 ∷ 3 ∷ [], shown (bits f) (expm f 2 3 (threes ++ threes) 6 8192))
      -- frechet_expm, A 2 by 2, E 2 by 3: 3 (2, 3)
      ∷ (0 ∷ 3 ∷ 2 ∷ 3 ∷ [], shown (both f) (frechet_expm f 2 2 zeros 2 3 (threes ++ threes) 4 4 8192))
      -- order 9: 4 (9, 8); order 2, 3 numbers: 5 (3, 4)
      ∷ (0 ∷ 4 ∷ 9 ∷ 8 ∷ [], shown (bits f) (expm f 9 9 (tab 81 (λ _. +zero)) 81 8192))
      ∷ (0 ∷ 5 ∷ 3 ∷ 4 ∷ [], shown (bits f) (expm f 2 2 threes 4 8192))
      -- logm order 1: 0 and -0 give 10, 1 gives 11
      ∷ (0 ∷ 10 ∷ 0 ∷ 0 ∷ [], shown (bits f) (logm f 1 1 (+zero ∷ []) 1 8192))
      ∷ (0 ∷ 10 ∷ 0 ∷ 0 ∷ [], shown (bits f) (logm f 1 1 (-zero ∷ []) 1 8192))
      ∷ (0 ∷ 11 ∷ 0 ∷ 0 ∷ [], shown (bits f) (logm f 1 1 (whole 1 ∷ []) 1 8192))
      -- sqrtm order 1: 4 gives 2, -0 gives -0
      ∷ (1 ∷ 0 ∷ number f (whole 2), shown (bits f) (sqrtm f 1 1 (whole 4 ∷ []) 1 8192))
      ∷ (1 ∷ 0 ∷ number f -zero, shown (bits f) (sqrtm f 1 1 (-zero ∷ []) 1 8192))
      -- halvings at norms 0, 1, next above 1, 2, 8, 9, largest finite
      ∷ (
        0 ∷ 0 ∷ 1 ∷ 1 ∷ 3 ∷ 4 ∷ v.most ∷ [],
        map halvings (whole 0 ∷ whole 1 ∷ of_bits f v.above_one ∷ whole 2 ∷ whole 8 ∷ whole 9 ∷ of_bits f v.largest ∷ []),
      )
      -- p of 3, 1e-15, 1e19 are integers 3, 0, 9223372036854775807; 1e-14 at its limit; 0.5, 2.5 are not
      ∷ (1 ∷ 3 ∷ [], integer (whole 3))
      ∷ (1 ∷ 0 ∷ [], integer (round f false 1 (10 ^ 15)))
      ∷ (1 ∷ 9223372036854775807 ∷ [], integer (whole (10 ^ 19)))
      ∷ (v.limit, integer (round f false 1 (10 ^ 14)))
      ∷ ([], integer (round f false 1 2))
      ∷ ([], integer (round f false 5 2))
      -- LU [[0,1],[2,0]]: factors [[2,0],[0,1]], pivots 1, 1, determinant -2; [[1,0],[-1,1]]: pivots 0, 1
      ∷ (
        1 ∷ 0 ∷ bits f (whole 2 ∷ +zero ∷ +zero ∷ whole 1 ∷ []) ++ 1 ∷ 1 ∷ [],
        shown (factors_and_pivots f) (compute f 2 2 (+zero ∷ whole 1 ∷ whole 2 ∷ +zero ∷ []) (7 ∷ 7 ∷ []) 4 8192),
      )
      ∷ (
        1 ∷ 0 ∷ number f (minus 2),
        shown (number f) (compute f 2 2 (+zero ∷ whole 1 ∷ whole 2 ∷ +zero ∷ []) (7 ∷ 7 ∷ []) 4 8192
            >>= λ l. determinant f 2 2 l.factors l.pivot_rows),
      )
      ∷ (
        1 ∷ 0 ∷ 0 ∷ 1 ∷ [],
        shown (λ (l : Factorisation). l.pivot_rows) (compute f 2 2 (whole 1 ∷ +zero ∷ minus 1 ∷ whole 1 ∷ []) (7 ∷ 7 ∷ []) 4 8192),
      )
      -- LU [[2^-edge,0],[0,1]]: 14, column 0; the next number above 2^-edge passes
      ∷ (
        0 ∷ 14 ∷ 0 ∷ 0 ∷ [],
        shown (factors_and_pivots f) (compute f 2 2 (round f false 1 (2 ^ v.edge) ∷ +zero ∷ +zero ∷ whole 1 ∷ []) (7 ∷ 7 ∷ []) 4 8192),
      )
      ∷ (
        1 ∷ 0 ∷ 0 ∷ 1 ∷ [],
        shown (λ (l : Factorisation). l.pivot_rows) (compute f 2 2 (of_bits f v.above_edge ∷ +zero ∷ +zero ∷ whole 1 ∷ []) (7 ∷ 7 ∷ []) 4 8192),
      )
      ∷ []

-- ---- at binary64, where 1e-14 is no whole number
abbrev pub double : Numbers
double = record { above_one = 0x3ff0000000000001; largest = 0x7fefffffffffffff; most = 1024; limit = []; edge = 51; above_edge = 0x3cc0000000000001 }

pub starred : hold (table binary64 double) ≡ true
unfolding table all
starred = refl
