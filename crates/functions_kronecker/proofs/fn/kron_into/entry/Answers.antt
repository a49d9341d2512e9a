-- The entries of a Kronecker product meet their contract. Assumes nothing.
use Rattle.std.proofs.Common.{rules}
use Rattle.functions_kronecker.proofs.fn.kron_into.entry.Goals as goal

pub returns : goal.returns
returns g c = search rules
