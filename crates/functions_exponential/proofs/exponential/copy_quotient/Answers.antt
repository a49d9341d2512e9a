-- `copy_quotient` meets its contract. Assumes nothing.
use mathlib.Core.Path.{◌≡◌, sym, ap, ◌∙◌}
use native.Mathlib.Omega.{arith}
use lib.ListN.{length}
use Rattle.arithmetic_matrices.specs.Workspace.{slot}
use Rattle.arithmetic_matrices.proofs.MatrixLaws.{square_le}
use Rattle.arithmetic_matrices.proofs.Slots.{length-slot}
use Rattle.lu_factoring.specs.Solve.{stand_in}
use Rattle.functions_exponential.proofs.ExponentialLaws.{rest_is, quotient_part, length-stand_in}
use Rattle.functions_exponential.proofs.exponential.copy_quotient.Given.{Over}
use Rattle.functions_exponential.proofs.exponential.copy_quotient.Goals as goal

pub quotient_or_numerator-quotient-requires : goal.quotient_or_numerator-quotient-requires
quotient_or_numerator-quotient-requires g c =
    let laws = g.met.T.Real in
    let w = c.args.w.now in
    let few = square_le c.args.n c.requires.room.order in
    let rest = rest_is g.T.Real.floats w laws.length_law laws.take_law laws.drop_law in
    (omega (arith, few, c.requires.room.space, c.requires.out_len, laws.length_law w, rest 1280), omega (arith, few, c.requires.room.space, c.requires.out_len, laws.length_law w, rest 512))

-- the part that is copied
part_is : (g : Over) (c : goal.After-copy_from_slice-arg-1 g)
    → g.T.Real.floats c.quotient_or_numerator-quotient.result.now ≡ stand_in c.args.outcome (slot c.args.n (g.T.Real.floats c.args.w.now) 5) (slot c.args.n (g.T.Real.floats c.args.w.now) 2)
part_is g c =
    let laws = g.met.T.Real in
    c.quotient_or_numerator-quotient.ensures ∙ quotient_part g.T.Real.floats c.args.w.now laws.length_law laws.take_law laws.drop_law c.args.n c.args.outcome c.requires.out_len c.requires.room

pub copy_from_slice-requires : goal.copy_from_slice-requires
copy_from_slice-requires g c =
    let w = g.T.Real.floats c.args.w.now in
    c.requires.out_len ∙ sym (sym (g.met.T.Real.length_law _) ∙ ap length (part_is g c) ∙ length-stand_in c.args.outcome _ _ (length-slot c.args.n w 5) (length-slot c.args.n w 2))

pub returns : goal.returns
returns g c = ap g.T.Real.floats c.copy_from_slice.ensures.after ∙ part_is g c.before.before
