-- Question 17 at numbers of binary32: the table of samples, one claim.
use Rattle.std.specs.Prelude.{◌≡◌, refl, true}
use Rattle.std.specs.Float.{binary32}
use Rattle.samples.specs.Shown.{hold}
use Rattle.samples.specs.Halvings.{halvings_table}
use Rattle.samples.specs.Opened.{all}
use Rattle.samples_single.specs.Starred.{single}

pub halvings_hold : hold (halvings_table binary32 single) ≡ true
unfolding halvings_table all
halvings_hold = refl
