-- `back_rows` meets its contract, by the steps over the rows from the last. Assumes nothing.
use Prim.Native.Nat.{suc, ◌+◌, ◌-◌, ◌<◌}
use native.Mathlib.Omega.{arith}
use mathlib.Core.Path.{◌≡◌, ◌∙◌}
use Rattle.arithmetic_matrices.proofs.MatrixLaws.{row_end}
use Rattle.lu_systems.proofs.ByRows.{rows_from}
use Rattle.lu_substitution.proofs.SubstitutionLaws.{each_size, backed_start, backed_turn, backed_end}
use Rattle.lu_substitution.proofs.substitution.back_rows.Goals as goal

pub loop-k-init : goal.loop-k-init
loop-k-init g c = backed_start _ _ _ _ _ (g.met.T.Real.length_law c.args.x.now ∙ c.requires.1)

pub upper_row-requires : goal.upper_row-requires
upper_row-requires g c =
    let a = c.args in
    let k = c.loop-k.k in
    let i = a.n - 1 - k in
    let e : i + suc k ≡ a.n = omega arith in
    let h : i < a.n = omega arith in
    let size = each_size _ _ _ _ _ c.loop-k.invariant.value in
    (omega (arith, c.requires.0, row_end i a.n a.n h), omega (arith, rows_from i k a.n a.m e, g.met.T.Real.length_law c.loop-k.x))

pub loop-k-preserved : goal.loop-k-preserved
loop-k-preserved g c = backed_turn _ _ _ _ _ (g.met.T.Real.length_law c.args.x.now ∙ c.requires.1) c.loop-k.invariant c.loop-k-test.true c.upper_row.ensures

pub returns : goal.returns
returns g c = backed_end _ _ _ _ _ (g.met.T.Real.length_law c.args.x.now ∙ c.requires.1) c.loop-k.invariant c.loop-k-test.false
