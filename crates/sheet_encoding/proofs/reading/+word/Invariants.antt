-- `word` calls itself with one byte less. Assumes nothing.
use Rattle.sheet_encoding.proofs.reading.+word.Given as goal

abbrev pub decreases-word : goal.decreases-word
decreases-word l = l.k
