-- `load_system` meets its contract. Assumes nothing.
use mathlib.Core.Path.{sym}
use lib.Seq.{length-take-le}
use native.Mathlib.Omega.{arith}
use Rattle.functions_root_derivatives.proofs.root_derivative.load_system.Goals as goal

pub slice_bounds-fill_system-end : goal.slice_bounds-fill_system-end
slice_bounds-fill_system-end g c = sym (length-take-le _ _ (omega (arith, c.requires.1, c.small_room-s.ensures)))

pub fill_system-requires : goal.fill_system-requires
fill_system-requires g c = (c.requires.0, c.requires.1, c.requires.2, length-take-le _ _ (omega (arith, c.requires.1, c.small_room-s.ensures)))

pub returns : goal.returns
returns g c = c.fill_system.ensures
