-- Ends of a text. Assumes nothing.
use Rattle.std.proofs.Common.{◌≤◌, ℕ, List, ◌++◌, length, sym, ◌∙◌, ap, append_assoc, arith, length-append}
use Rattle.vectors_recorded.specs.Remaining.{IsEndOf}

-- an end of an end is an end
pub end_end : (a b c : List ℕ) → IsEndOf a b → IsEndOf b c → IsEndOf a c
end_end a b c p q = record {
  read = p.read ++ q.read;
  parts = p.parts ∙ (ap (λ x. p.read ++ x) q.parts ∙ sym (append_assoc p.read q.read c));
}

pub end_length : (a b : List ℕ) → IsEndOf a b → length b ≤ length a
end_length a b p = omega (arith, ap length p.parts, length-append p.read b)
