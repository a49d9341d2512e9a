-- `multiply_bit` meets its contract: a law for each branch. Assumes nothing.
use Rattle.functions_powers.proofs.WholeLaws.{bit_set, bit_clear}
use Rattle.functions_powers.proofs.whole.multiply_bit.Goals as goal

pub returns-then-rest-eq1 : goal.returns-then-rest-eq1
returns-then-rest-eq1 g c =
    let a = c.args in
    bit_set g.T.Real.format a.n (g.T.Real.floats a.w.now) c.requires a.rest (g.T.Real.floats c.mult.new.w) (g.T.Real.floats c.copy.new.w) c.if-rest-eq1.true c.mult.ensures c.copy.ensures

pub returns-else-rest-eq1 : goal.returns-else-rest-eq1
returns-else-rest-eq1 g c = bit_clear g.T.Real.format c.args.n (g.T.Real.floats c.args.w.now) c.requires c.args.rest c.if-rest-eq1.false
