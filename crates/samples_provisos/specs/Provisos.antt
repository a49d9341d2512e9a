-- Demand 3 at numbers, by computation: runs of frechet_expm that meet the proviso, with what follows for their first output, and one that does not meet
-- it, whose first output is another. (functions_definitions/specs/Frechet.antt says what the proviso is.) The numbers are the same in both formats, and
-- so are the halvings: every claim is over the format, and computed in each.
use Rattle.std.specs.Prelude.{◌≡◌, refl, List, [], ◌∷◌, Bool, true, false, T, pos, negsuc, Float, Ok}
use Rattle.std.proofs.Common.{sym, subst, ◌∙◌, lit≤}
use Rattle.std.specs.Float.{fin, inf, nan, Format, binary32, binary64}
use Rattle.arithmetic_questions.specs.Result.{done, outcome}
use Rattle.arithmetic_questions.specs.Answers.{Outcome, reported}
use Rattle.lu_factoring.specs.Lu.{lu_outcome}
use Rattle.functions_definitions.specs.Exponential.{exponential, denominator, scaled, block, quarter}
use Rattle.functions_definitions.specs.Frechet.{Proviso, FirstAlone}
use Rattle.functions_definitions.specs.Calls.{frechet_expm}
use Rattle.functions_definitions.proofs.FirstOutput.{first_output_alone, counted, same_first}
use Rattle.samples_provisos.specs.Checked.{every, finite_dot, finite_product, finite_combination, finite_column, finite_forward_step, finite_forward, finite_back_step, finite_solution, finite_pade, finite_run, run_ok}
use Rattle.samples.specs.Opened.{all}

-- to unfold `tests` is to unfold every definition and the tests of the proviso
unfoldable tests : Bool
unfolding all every finite_dot finite_product finite_combination finite_column finite_forward_step finite_forward finite_back_step finite_solution finite_pade finite_run
tests = true

-- what holds in each format holds over the format
in_each : (P : Format → Type 0) → P binary32 → P binary64 → (f : Format) → P f
in_each P x y binary32 = x
in_each P x y binary64 = y

-- ---- order 1: A = [1], in the directions [3] and [-5/2]

abbrev one : List Float
one = fin false 1 (pos 0) ∷ []

abbrev three : List Float
three = fin false 3 (pos 0) ∷ []

abbrev minus_five_halves : List Float
minus_five_halves = fin true 5 (negsuc 0) ∷ []

-- both runs report 2 halvings
pub reports_three : (f : Format) → outcome (frechet_expm f 1 1 one 1 1 three 1 1 8192) ≡ done 2 tt
unfolding all outcome
reports_three = in_each _ refl refl

pub reports_minus : (f : Format) → outcome (frechet_expm f 1 1 one 1 1 minus_five_halves 1 1 8192) ≡ done 2 tt
unfolding all outcome
reports_minus = in_each _ refl refl

-- both meet the proviso
finite_three : (f : Format) → T (finite_run f 2 2 (block 1 one three))
unfolding tests
finite_three = in_each _ tt tt

accepts_three : (f : Format) → lu_outcome f 2 (denominator f 2 (scaled f 2 2 (block 1 one three))) ≡ Ok tt
unfolding all
accepts_three = in_each _ refl refl

pub proviso_three : (f : Format) → Proviso f 1 2 one three
proviso_three f = record { finite = run_ok f 2 2 (block 1 one three) (finite_three f); accepted = accepts_three f }

finite_minus : (f : Format) → T (finite_run f 2 2 (block 1 one minus_five_halves))
unfolding tests
finite_minus = in_each _ tt tt

accepts_minus : (f : Format) → lu_outcome f 2 (denominator f 2 (scaled f 2 2 (block 1 one minus_five_halves))) ≡ Ok tt
unfolding all
accepts_minus = in_each _ refl refl

pub proviso_minus : (f : Format) → Proviso f 1 2 one minus_five_halves
proviso_minus f = record { finite = run_ok f 2 2 (block 1 one minus_five_halves) (finite_minus f); accepted = accepts_minus f }

-- so two calls, whose outcomes o and o' are those of the definition and whose first outputs meet frechet_expm's clause, have one first output
pub one_first : (f : Format) (o o' : Outcome) (first first' : List Float) → reported o ≡ outcome (frechet_expm f 1 1 one 1 1 three 1 1 8192) → reported o' ≡ outcome (frechet_expm f 1 1 one 1 1 minus_five_halves 1 1 8192)
    → FirstAlone f 1 o one three first → FirstAlone f 1 o' one minus_five_halves first' → first ≡ first'
one_first f o o' first first' d d' F F' = same_first f 1 2 one three minus_five_halves first first' o o' F F' (d ∙ reports_three f) (d' ∙ reports_minus f) (proviso_three f) (proviso_minus f)

-- ---- order 2: A = [1 -3/2; 1/8 0] in the direction E = [3 1; 0 -5]

abbrev matrix : List Float
matrix = fin false 1 (pos 0) ∷ fin true 3 (negsuc 0) ∷ fin false 1 (negsuc 2) ∷ fin false 0 (pos 0) ∷ []

abbrev direction : List Float
direction = fin false 3 (pos 0) ∷ fin false 1 (pos 0) ∷ fin false 0 (pos 0) ∷ fin true 5 (pos 0) ∷ []

-- the run reports 3 halvings
pub reports : (f : Format) → outcome (frechet_expm f 2 2 matrix 2 2 direction 4 4 8192) ≡ done 3 tt
unfolding all outcome
reports = in_each _ refl refl

finite_run_sample : (f : Format) → T (finite_run f 4 3 (block 2 matrix direction))
unfolding tests
finite_run_sample = in_each _ tt tt

accepts : (f : Format) → lu_outcome f 4 (denominator f 4 (scaled f 4 3 (block 2 matrix direction))) ≡ Ok tt
unfolding all
accepts = in_each _ refl refl

pub proviso : (f : Format) → Proviso f 2 3 matrix direction
proviso f = record { finite = run_ok f 4 3 (block 2 matrix direction) (finite_run_sample f); accepted = accepts f }

-- so its first output is the exponential of A alone
pub alone : (f : Format) → quarter 2 0 (exponential f 4 3 (block 2 matrix direction)) ≡ exponential f 2 3 matrix
alone f = first_output_alone f 2 3 matrix direction (counted f 2 (lit≤ tt)) (proviso f)

-- ---- the proviso cannot be dropped: at A = [2048] in the direction [1] the run on the block is done, but it multiplies an infinity by +0

abbrev large : List Float
large = fin false 1 (pos 11) ∷ []

pub large_reports : (f : Format) → outcome (frechet_expm f 1 1 large 1 1 one 1 1 8192) ≡ done 12 tt
unfolding all outcome
large_reports = in_each _ refl refl

pub large_first : (f : Format) → quarter 1 0 (exponential f 2 12 (block 1 large one)) ≡ nan ∷ []
unfolding all
large_first = in_each _ refl refl

pub large_alone : (f : Format) → exponential f 1 12 large ≡ inf false ∷ []
unfolding all
large_alone = in_each _ refl refl

abbrev is_nan : List Float → Bool
is_nan [] = false
is_nan (nan ∷ l) = true
is_nan (inf s ∷ l) = false
is_nan (fin s m k ∷ l) = false

-- so its first output is not the exponential of A alone
pub needed : (f : Format) → quarter 1 0 (exponential f 2 12 (block 1 large one)) ≡ exponential f 1 12 large → ⊥
needed f same = subst (λ (l : List Float). T (is_nan l)) (sym (large_first f) ∙ same ∙ large_alone f) tt
