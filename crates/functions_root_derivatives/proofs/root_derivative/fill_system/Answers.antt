-- `fill_system` meets its contract: the part of w that holds the system is lent and comes back. Assumes nothing.
use Prim.Native.Nat.{◌+◌, ◌-◌, ◌*◌}
use mathlib.Core.Path.{ap, ◌∙◌}
use Rattle.arithmetic_matrices.specs.Matrix.{part}
use Rattle.functions_root_derivatives.proofs.RootDerivativeLaws.{system_filled}
use Rattle.functions_root_derivatives.specs.Kernels.{second_of}
use native.Mathlib.Nat.{mul-le-mul}
use native.Mathlib.Omega.{arith}
use Rattle.functions_root_derivatives.proofs.root_derivative.fill_system.Goals as goal

pub overflow_mul-end-3 : goal.overflow_mul-end-3
overflow_mul-end-3 g c = omega (arith, mul-le-mul c.requires.1 c.requires.1)

pub overflow_add-end : goal.overflow_add-end
overflow_add-end g c = omega (arith, mul-le-mul c.requires.1 c.requires.1)

pub returns : goal.returns
returns g c =
    let a = c.args in
    let o = c.copy_out in
    let m = c.sylvester_into in
    let laws = g.met.T.Real in
    laws.put_mid_law 2048 (2048 + a.n * a.n * (a.n * a.n) - 2048) a.w.now m.new.out
    ∙ system_filled g.T.Real.format a.n (second_of a.transposed a.n) (g.T.Real.floats a.w.now) (g.T.Real.floats o.new.out) (g.T.Real.floats m.new.out) c.requires.1 (omega (arith, c.requires.2, laws.length_law a.w.now)) (o.ensures ∙ ap (part (g.T.Real.floats a.w.now) 0) c.requires.3) m.ensures
