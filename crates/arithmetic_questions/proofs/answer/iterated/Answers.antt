-- `iterated` meets its contract. Assumes nothing.
use mathlib.Core.Path.{refl}
use lib.Ieee.{div, of_bits}
use Rattle.arithmetic_questions.proofs.answer.iterated.Goals as goal

pub returns : goal.returns
unfolding div of_bits
returns c = refl
