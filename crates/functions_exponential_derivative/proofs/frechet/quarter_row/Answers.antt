-- `quarter_row` meets its contract. The invariant: row i of `out` has its new entries in the columns below j. Assumes nothing.
use Prim.Native.Nat.{ℕ, ◌+◌, ◌*◌, ◌≤◌, ◌<◌}
use mathlib.Core.Path.{◌≡◌, ap, ◌∙◌}
use native.Mathlib.Omega.{arith}
use lib.ListN.{set}
use Rattle.arithmetic_matrices.specs.Matrix.{at}
use Rattle.arithmetic_matrices.specs.Kernels.{row_to, with_row}
use Rattle.arithmetic_matrices.proofs.MatrixLaws.{index_lt}
use Rattle.arithmetic_matrices.proofs.PatchLaws.{row_none, row_more}
use Rattle.functions_exponential_derivative.specs.Kernels.{quarter_row}
use Rattle.functions_exponential_derivative.proofs.frechet.quarter_row.Goals as goal

-- the place of an entry of the quarter is within b, and that of its copy within out
inside : (n c i j : ℕ) → i < n → c ≤ n → j < n → (i * (n + n) + (c + j) < (n + n) * (n + n)) × (i * n + j < n * n)
inside n c i j p q r = (index_lt (omega arith) (omega arith), index_lt p r)

pub loop-j-init : goal.loop-j-init
loop-j-init g c = (omega arith, row_none c.args.n c.args.i (quarter_row c.args.n c.args.c (g.T.Real.floats c.args.b.now) c.args.i) (g.T.Real.floats c.args.out.now))

pub loop-j-preserved : goal.loop-j-preserved
loop-j-preserved g c =
    let l = c.loop-j in
    let a = c.args in
    let laws = g.met.T.Real in
    let out = g.T.Real.floats a.out.now in
    let h = quarter_row a.n a.c (g.T.Real.floats a.b.now) a.i in
    let p = inside a.n a.c a.i l.j c.requires.0 c.requires.2 (omega arith) in
    let read : g.T.Real.float c.index-b-i.result ≡ h l.j = unfold quarter_row at in laws.item_law _ _ _ c.index-b-i.is (omega (arith, p.0, c.requires.3)) in
    (omega arith, laws.set_law _ _ _ ∙ (λ i. set (l.invariant.1 i) (a.i * a.n + l.j) (read i)) ∙ row_more a.n a.i h out l.j (omega (arith, p.1, c.requires.4, laws.length_law a.out.now)))

pub returns : goal.returns
unfolding with_row
returns g c =
    let l = c.loop-j in
    let a = c.args in
    let e : l.j ≡ a.n = omega arith in
    l.invariant.1 ∙ ap (row_to a.n a.i (quarter_row a.n a.c (g.T.Real.floats a.b.now) a.i) (g.T.Real.floats a.out.now)) e
