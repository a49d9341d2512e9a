-- `derive_root` meets its contract: order 1, and above. Assumes nothing.
use native.Mathlib.Omega.{arith}
use mathlib.Core.Path.{◌∙◌}
use Rattle.functions_definitions.specs.Derivatives.{scalar_derivative}
use Rattle.functions_root_derivatives.proofs.RootDerivativeLaws.{derived_number, derived_above, derived_none, derived_system}
use Rattle.functions_root_derivatives.specs.Kernels.{second_of}
use Rattle.functions_root_derivatives.proofs.root_derivative.derive_root.Goals as goal

pub returns-then-n-eq1 : goal.returns-then-n-eq1
returns-then-n-eq1 g c =
    let laws = g.met.T.Real in
    let long = laws.length_law c.args.w.now in
    let room = c.requires.room.space in
    let root = laws.item_law c.args.w.now 0 _ c.index-w-0.is (omega (arith, room, long)) in
    let direction = laws.item_law c.args.w.now 1536 _ c.index-w-1536.is (omega (arith, room, long)) in
    record {
      derived = derived_number g.T.Real.format c.args.n (second_of c.args.transposed c.args.n) (g.T.Real.floats c.args.w.now) c.requires.room (g.T.Real.float c.scalar_derivative.result) _ c.if-n-eq1.true (c.scalar_derivative.ensures ∙ (λ i. scalar_derivative g.T.Real.format (root i) (direction i))) (laws.set_law c.args.w.now 256 c.scalar_derivative.result);
      report_value = λ _. derived_none g.T.Real.format c.args.n (second_of c.args.transposed c.args.n) (g.T.Real.floats c.args.w.now) c.requires.room c.nothing.result c.if-n-eq1.true c.nothing.ensures;
    }

pub returns : goal.returns
returns g c =
    let x = c.sylvester in
    record {
      derived = derived_above g.T.Real.format c.args.n (second_of c.args.transposed c.args.n) (g.T.Real.floats c.args.w.now) c.requires.room x.result.accepted (g.T.Real.floats x.new.w) c.if-n-eq1.false x.ensures.derived;
      report_value = λ e. derived_system g.T.Real.format c.args.n (second_of c.args.transposed c.args.n) (g.T.Real.floats c.args.w.now) c.requires.room x.result.report c.if-n-eq1.false (x.ensures.report_value e);
    }
