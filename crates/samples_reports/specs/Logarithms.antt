-- Whole reports of what takes logarithms, at numbers, against the source run in Rust: the smallest pivot, the steps, and whether they settled. One claim
-- each, since one takes many steps.
use Rattle.std.specs.Prelude.{ℕ, ◌≡◌, refl, cond, List, [], ◌∷◌}
use Rattle.std.specs.Float.{binary32, binary64}
use Rattle.std.specs.Float.Ieee.{to_bits}
use Rattle.arithmetic_floats.specs.Float.{+zero, one, half}
use Rattle.arithmetic_questions.specs.declared.answer.Report.{Report}
use Rattle.functions_definitions.specs.Reports.{log_report, frechet_log_report, power_report}
use Rattle.samples.specs.Opened.{all}
use Rattle.samples_reports.specs.Smallest.{lower, toward}

-- the bits of the smallest pivot, the steps, and 1 where they settled
abbrev shown : Report → List ℕ
shown r = to_bits binary64 r.smallest ∷ r.steps ∷ cond r.settled 1 0 ∷ []

-- four roots of A = [[3, 0], [2, 4]], and the series
pub log_holds : shown (log_report binary64 2 lower) ≡ 0x3ff08f106b154902 ∷ 33 ∷ 1 ∷ []
unfolding all
log_holds = refl

pub log_holds_single : shown (log_report binary32 2 lower) ≡ 0x3ff08f1060000000 ∷ 20 ∷ 1 ∷ []
unfolding all
log_holds_single = refl

pub frechet_log_holds_single : shown (frechet_log_report binary32 2 lower toward) ≡ 0x3ff08f1060000000 ∷ 40 ∷ 1 ∷ []
unfolding all
frechet_log_holds_single = refl

-- the power 1/2: the logarithm, and the exponential of half of it, which adds a pivot and no step
pub power_holds_single : shown (power_report binary32 2 lower half) ≡ 0x3fe692b7e0000000 ∷ 20 ∷ 1 ∷ []
unfolding all
power_holds_single = refl

-- no root is taken of the identity; the exponential of half its logarithm has the denominator I
pub identity_holds : shown (log_report binary64 2 (one ∷ +zero ∷ +zero ∷ one ∷ [])) ≡ 0x7ff0000000000000 ∷ 1 ∷ 1 ∷ []
unfolding all
identity_holds = refl

pub identity_power_holds : shown (power_report binary64 2 (one ∷ +zero ∷ +zero ∷ one ∷ []) half) ≡ 0x3ff0000000000000 ∷ 1 ∷ 1 ∷ []
unfolding all
identity_power_holds = refl
