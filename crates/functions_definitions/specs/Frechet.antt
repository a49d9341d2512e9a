-- Demand 3: the first output of frechet_expm depends on A alone, and not on the direction E. `frechet_expm` has `FirstAlone` among its clauses, for all
-- input; the theorem behind it is `first_output_alone` of proofs/FirstOutput.antt. Definitions only.
use Rattle.std.specs.Prelude.{ℕ, ◌+◌, ◌≡◌, List, Float, Ok}
use Rattle.std.specs.Float.{Format}
use Rattle.arithmetic_questions.specs.Result.{done}
use Rattle.arithmetic_questions.specs.Answers.{Outcome, reported}
use Rattle.lu_factoring.specs.Lu.{lu_outcome}
use Rattle.functions_definitions.specs.Exponential.{denominator, scaled, exponential, block}
use Rattle.functions_definitions.specs.Finite.{FiniteRun}

-- The proviso, of the run on the block [A E; 0 A] of order 2 n at s halvings: each number that it forms is finite, and LU accepts its Padé denominator.
-- crates/samples_provisos/specs/Provisos.antt has runs that meet it, and one that does not, whose first output is another.
pub record Proviso (f : Format) (n s : ℕ) (a e : List Float) : Type 0 where
  pub finite : FiniteRun f (n + n) s (block n a e)
  pub accepted : lu_outcome f (n + n) (denominator f (n + n) (scaled f (n + n) s (block n a e))) ≡ Ok tt

-- Where the outcome o is done at s halvings and the proviso holds, the first output is the exponential of A alone at s, bit for bit. E occurs in the
-- proviso only. (s is the one that the run reports, of the block's norm and at most 64; the public expm takes that of A's norm.)
abbrev pub FirstAlone : Format → ℕ → Outcome → List Float → List Float → List Float → Type 0
FirstAlone f n o a e first = (s : ℕ) → reported o ≡ done s tt → Proviso f n s a e → first ≡ exponential f n s a
