-- The lines of the trial bench that document 01 marks as proved, in binary32: the table of samples, one claim.
use Rattle.std.specs.Prelude.{◌≡◌, refl, true, [], ◌∷◌}
use Rattle.std.specs.Float.{binary32}
use Rattle.samples.specs.Shown.{hold}
use Rattle.samples.specs.Starred.{Numbers, table}
use Rattle.samples.specs.Opened.{all}

-- 1e-14 rounds to a number below it, which is taken for 0: p is widened, and the test is binary64's
abbrev pub single : Numbers
single = record { above_one = 0x3f800001; largest = 0x7f7fffff; most = 128; limit = 1 ∷ 0 ∷ []; edge = 22; above_edge = 0x34800001 }

pub starred : hold (table binary32 single) ≡ true
unfolding table all
starred = refl
