-- Numbers, words and lines as bytes of ASCII. Definitions only.
use Rattle.std.specs.Prelude.{ℕ, zero, suc, ◌+◌, ◌/◌, ◌%◌, Bool, true, false, cond, List, [], ◌∷◌, ◌++◌, ltb, Float}
use Rattle.std.specs.Float.{Format}
use Rattle.std.specs.Float.Ieee.{to_bits}
use Rattle.arithmetic_questions.specs.Result.{Result, refused, done}

-- the character of a digit below 16: `0` to `9`, then `a` to `f`
abbrev pub glyph : ℕ → ℕ
glyph d = cond (ltb d 10) (48 + d) (87 + d)

-- the last k digits of n in base 16, the most significant first
unfoldable pub hex_digits : ℕ → ℕ → List ℕ
hex_digits zero n = []
hex_digits (suc k) n = hex_digits k (n / 16) ++ (glyph (n % 16) ∷ [])

-- nothing where the test holds, and t otherwise
abbrev pub or_none : Bool → List ℕ → List ℕ
or_none true t = []
or_none false t = t

-- n in decimal, at most k + 1 digits
unfoldable pub decimal_in : ℕ → ℕ → List ℕ
decimal_in zero n = glyph (n % 10) ∷ []
decimal_in (suc k) n = or_none (ltb n 10) (decimal_in k (n / 10)) ++ (glyph (n % 10) ∷ [])

-- a number below 10 ^ 20 in decimal
unfoldable pub decimal : ℕ → List ℕ
decimal n = decimal_in 19 n

-- a number as the 16 digits of its bits; those of NaN at binary64 are 7ff8000000000000
unfoldable pub number_text : Format → Float → List ℕ
number_text f x = hex_digits 16 (to_bits f x)

-- the words ok and no, and the end of a line
abbrev pub ok_word : List ℕ
ok_word = 111 ∷ 107 ∷ []

abbrev pub no_word : List ℕ
no_word = 110 ∷ 111 ∷ []

abbrev pub newline : List ℕ
newline = 10 ∷ []

-- a space, and the text t of a field
abbrev pub field : List ℕ → List ℕ
field t = (32 ∷ []) ++ t

-- numbers, each after a space
unfoldable pub numbers_text : Format → List Float → List ℕ
numbers_text f [] = []
numbers_text f (x ∷ xs) = field (number_text f x) ++ numbers_text f xs

-- a refusal's number and its two details
unfoldable pub details_text : ℕ → ℕ → ℕ → List ℕ
details_text k x y = field (decimal k) ++ field (decimal x) ++ field (decimal y)

-- the line of a refused task, and with task number 0 that of a refused sheet
unfoldable pub refused_line : ℕ → ℕ → ℕ → ℕ → List ℕ
refused_line task k x y = decimal task ++ field no_word ++ details_text k x y ++ newline

-- what stands before the numbers of a task that is done
unfoldable pub done_head : ℕ → ℕ → List ℕ
done_head task halvings = decimal task ++ field ok_word ++ field (decimal halvings)

-- the line of a task that is done
unfoldable pub done_line : Format → ℕ → ℕ → List Float → List ℕ
done_line f task halvings m = done_head task halvings ++ numbers_text f m ++ newline

-- the line of a task with its result
unfoldable pub result_line : Format → ℕ → Result (List Float) → List ℕ
result_line f task (refused k x y) = refused_line task k x y
result_line f task (done s m) = done_line f task s m

-- the result that has this outcome and, where it is done, the numbers m
unfoldable pub carrying : List Float → Result (Unit {0}) → Result (List Float)
carrying m (refused k x y) = refused k x y
carrying m (done s a) = done s m
