-- `word` meets its contract: a byte that is read leaves an end of what was left. Assumes nothing.
use Rattle.std.proofs.Common.{◌≡◌, ℕ, List, [], ◌∷◌, arith}
use Rattle.vectors_recorded.specs.Remaining.{IsEndOf}
use Rattle.vectors_recorded.proofs.Ends.{end_end, end_length}
use Rattle.vectors_recorded.proofs.reader.Reader.word.Goals as goal

one_read : (s rest : List ℕ) (x : ℕ) → s ≡ x ∷ rest → IsEndOf s rest
one_read s rest x h = record { read = x ∷ []; parts = h }

pub loop-b-preserved : goal.loop-b-preserved
loop-b-preserved c = end_end _ _ _ c.loop-b.invariant (one_read _ _ _ c.in-Some.ensures.cases.0)

pub returns-in_default-digit : goal.returns-in_default-digit
returns-in_default-digit c = record {
  is_end = end_end _ _ _ c.loop-b.invariant (one_read _ _ _ c.in-Some.ensures.cases.0);
  past = λ h. omega (arith, end_length _ _ c.loop-b.invariant, c.in-Some.ensures.cases.1);
}
