-- `pade_divide` meets its contract. Assumes nothing.
use mathlib.Core.Logic.{inl}
use native.Mathlib.Omega.{arith}
use Prim.Native.Nat.{◌≤◌}
use lib.ListN.{length}
use Rattle.arithmetic_matrices.proofs.MatrixLaws.{square_le}
use Rattle.functions_exponential.proofs.ExponentialLaws.{quotient_beside, quotient_reported}
use Rattle.functions_exponential.proofs.exponential.pade_divide.Goals as goal

pub divide_reporting-requires : goal.divide_reporting-requires
divide_reporting-requires g c =
    let few = square_le c.args.n c.requires.room.order in
    let long : 8192 ≤ length c.copy.new.w = omega (arith, c.copy.auto.w, c.requires.room.space, g.met.T.Real.length_law c.args.w.now) in
    (omega (arith, c.requires.room.order), omega (arith, few, long), omega (arith, few, long), inl (omega (arith, few)), c.requires.pivots_len)

pub returns : goal.returns
returns g c =
    let d = c.divide_reporting in
    let copy1 = c.copy in
    record {
      pade_quotient = quotient_beside g.T.Real.format c.args.n (g.T.Real.floats c.args.w.now) c.requires.room (g.T.Real.floats copy1.new.w) (g.T.Real.floats d.new.w) d.result.outcome copy1.ensures d.ensures.outcome_value.0 d.ensures.outcome_value.1;
      smallest_value = quotient_reported g.T.Real.format c.args.n (g.T.Real.floats c.args.w.now) c.requires.room (g.T.Real.floats copy1.new.w) (g.T.Real.float d.result.smallest) copy1.ensures d.ensures.smallest_value;
    }
