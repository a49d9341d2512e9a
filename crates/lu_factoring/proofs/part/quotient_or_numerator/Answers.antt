-- `quotient_or_numerator` meets its contract: each arm of the match is told the outcome. Assumes nothing.
use mathlib.Core.Path.{sym}
use lib.Seq.{length-take-le}
use Rattle.lu_factoring.proofs.part.quotient_or_numerator.Goals as goal

pub slice_bounds-result-end : goal.slice_bounds-result-end
slice_bounds-result-end g c = sym (length-take-le _ _ c.requires.0)

pub slice_bounds-result-end-in-Err : goal.slice_bounds-result-end-in-Err
slice_bounds-result-end-in-Err g c = sym (length-take-le _ _ c.requires.1)

pub returns-in-Ok : goal.returns-in-Ok
returns-in-Ok g c = rw c.in-Ok.is (g.met.T.Real.take_law _ _)

pub returns-in-Err : goal.returns-in-Err
returns-in-Err g c = rw c.in-Err.is (g.met.T.Real.take_law _ _)
