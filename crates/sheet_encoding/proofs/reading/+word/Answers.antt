-- `word` meets its contract. Assumes nothing.
use Prim.Native.Nat.{ℕ, ◌+◌, ◌*◌, ◌^◌, ◌<◌}
use mathlib.Core.Path.{sym}
use native.Mathlib.Omega.{arith}
use Rattle.sheet_encoding.proofs.BytesLaws.{word_at_none, word_at_more, word_lt, word_fits}
use Rattle.sheet_encoding.proofs.reading.+word.Goals.{After-from}
use Rattle.sheet_encoding.proofs.reading.+word.Goals as goal

below : (t : ℕ) (c : After-from t) → c.from.result + 256 * c.word-rest.result < 256 ^ c.args.k
below t c =
    let a = c.args in
    let w = c.word-rest in
    word_lt a.k c.from.result w.result (omega arith) (omega (arith, c.from.ensures, c.type_inv.s a.p)) w.ensures.1

pub returns-then-k-eq0 : goal.returns-then-k-eq0
returns-then-k-eq0 t c = rw c.if-k-eq0.true (sym (word_at_none _ _), omega arith)

pub overflow_mul-result : goal.overflow_mul-result
overflow_mul-result t c = omega (arith, below t (goal.at.overflow_mul-result t c).After-from, word_fits c.args.k (omega arith))

pub overflow_add-result : goal.overflow_add-result
overflow_add-result t c = omega (arith, below t (goal.at.overflow_add-result t c).After-from, word_fits c.args.k (omega arith))

pub returns : goal.returns
returns t c =
    let a = c.args in
    let w = c.word-rest in
    (rw (word_at_more a.k a.s.now a.p (omega arith), c.from.ensures, w.ensures.0), below t (goal.at.returns t c).After-from)
