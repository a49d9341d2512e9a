-- `put_decimal` calls itself with a tenth of n. Assumes nothing.
use Rattle.sheet_encoding.proofs.writing.+put_decimal.Given as goal

abbrev pub decreases-put_decimal : goal.decreases-put_decimal
decreases-put_decimal l = l.n
