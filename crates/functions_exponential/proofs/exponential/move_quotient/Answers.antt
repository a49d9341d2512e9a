-- `move_quotient` meets its contract. Assumes nothing.
use mathlib.Core.Path.{ap, ◌∙◌}
use native.Mathlib.Omega.{arith}
use lib.Dec.{lit<}
use Rattle.arithmetic_matrices.specs.Workspace.{store}
use Rattle.arithmetic_matrices.proofs.MatrixLaws.{square_le}
use Rattle.functions_exponential.proofs.exponential.move_quotient.Goals as goal

pub copy_in-requires : goal.copy_in-requires
copy_in-requires g c = (lit< tt, omega (arith, square_le c.args.n c.requires.room.order, c.requires.room.space, c.requires.room_len, c.copy_quotient.auto.out, g.met.T.Real.length_law c.args.w.now))

pub returns : goal.returns
returns g c =
    let a = c.args in
    c.copy_in.ensures ∙ ap (store (g.T.Real.floats a.w.now) 0) c.copy_quotient.ensures
