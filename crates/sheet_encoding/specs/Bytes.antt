-- Numbers in the bytes of a sheet, lowest byte first. Definitions only.
use Rattle.std.specs.Prelude.{ℕ, zero, suc, ◌+◌, ◌*◌, List, get_or, Float}
use Rattle.std.specs.Float.{Format}
use Rattle.std.specs.Float.Ieee.{of_bits}
use Rattle.arithmetic_matrices.specs.Matrix.{tab}

-- the byte at p
abbrev pub byte_at : List ℕ → ℕ → ℕ
byte_at s p = get_or s p 0

-- the whole number that k bytes from p on stand for
unfoldable pub word_at : ℕ → List ℕ → ℕ → ℕ
word_at zero s p = 0
word_at (suc k) s p = byte_at s p + 256 * word_at k s (p + 1)

-- the number whose bits are the 8 bytes from p on; every NaN's bits stand for the one NaN
unfoldable pub number_at : Format → List ℕ → ℕ → Float
number_at f s p = of_bits f (word_at 8 s p)

-- k numbers from p on
unfoldable pub numbers_at : Format → List ℕ → ℕ → ℕ → List Float
numbers_at f s p k = tab k (λ i. number_at f s (p + 8 * i))
