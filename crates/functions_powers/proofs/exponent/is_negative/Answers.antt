-- `is_negative` meets its contract. Assumes nothing.
use Rattle.functions_powers.proofs.WholeLaws.{sign_test}
use Rattle.functions_powers.proofs.exponent.is_negative.Goals as goal

pub returns : goal.returns
returns c = sign_test c.args.e c.ranges.e
