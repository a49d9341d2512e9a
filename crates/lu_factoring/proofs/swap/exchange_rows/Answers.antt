-- `exchange_rows` meets its contract, since two rows that differ are apart, and a row that changes places with itself is as it was. Assumes nothing.
use Prim.Native.Nat.{◌+◌, ◌*◌, ◌≤◌}
use native.Mathlib.Omega.{arith}
use mathlib.Core.Path.{◌∙◌}
use Rattle.arithmetic_matrices.proofs.MatrixLaws.{row_end}
use Rattle.lu_factoring.specs.Solve.{swap_items}
use Rattle.lu_factoring.proofs.RowLaws.{rows_apart, swap_rows_in, swap_self, each_none}
use Rattle.lu_factoring.proofs.swap.exchange_rows.Given.{Over}
use Rattle.lu_factoring.proofs.swap.exchange_rows.Goals as goal

-- both rows lie in the matrix
inside : (g : Over) (s : goal.After-swap_parts-arg-1 g) → let a = s.args in (a.k * a.m + a.m ≤ a.n * a.m) × (a.p * a.m + a.m ≤ a.n * a.m)
inside g s = (row_end s.args.k s.args.n s.args.m s.requires.0, row_end s.args.p s.args.n s.args.m s.requires.1)

pub swap_parts-requires : goal.swap_parts-requires
swap_parts-requires g c =
    let a = c.args in
    let r = inside g c in
    (omega arith, omega arith, rows_apart a.x a.m a.p a.k c.if-p-k.true)

pub returns-then-p-k : goal.returns-then-p-k
returns-then-p-k g c =
    let a = c.args in
    c.swap_parts.ensures ∙ swap_rows_in (g.T.Real.floats a.w.now) a.x a.n a.m a.k a.p c.requires.0 c.requires.1 (rw (g.met.T.Real.length_law a.w.now) c.requires.2)

pub returns-else-p-k : goal.returns-else-p-k
returns-else-p-k g c =
    let a = c.args in
    rw c.if-p-k.false (each_none (g.T.Real.floats a.w.now) a.x a.n a.m (swap_items a.n a.k a.k) (rw (g.met.T.Real.length_law a.w.now) c.requires.2) (swap_self a.n a.k))

pub overflow_mul-k : goal.overflow_mul-k
overflow_mul-k g c = omega (arith, inside g c)

pub overflow_add-x : goal.overflow_add-x
overflow_add-x g c = omega (arith, inside g c)

pub overflow_mul-p : goal.overflow_mul-p
overflow_mul-p g c = omega (arith, inside g c)

pub overflow_add-x-then-p-k : goal.overflow_add-x-then-p-k
overflow_add-x-then-p-k g c = omega (arith, inside g c)
