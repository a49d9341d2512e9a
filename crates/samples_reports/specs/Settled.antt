-- The steps that calls report at numbers, and whether they settled, in both formats, against the source run in Rust: its passes and terms counted. Converged
-- numbers alone would not tell the start value and the stopping test apart. A hundred passes on finite numbers are too many for one claim: the recorded
-- vectors have such runs. Definitions at NaNs, which the calls refuse, show what never settles.
use Rattle.std.specs.Prelude.{ℕ, ◌≡◌, refl, true, cond, List, [], ◌∷◌, pos, Float}
use Rattle.std.specs.Float.{nan, fin, binary32, binary64}
use Rattle.arithmetic_floats.specs.Float.{+zero, one}
use Rattle.arithmetic_questions.specs.Reports.{report_at}
use Rattle.arithmetic_questions.specs.declared.answer.Report.{Report}
use Rattle.functions_definitions.specs.Roots.{square_root}
use Rattle.functions_definitions.specs.Reports.{lu_report, exp_report, root_report, frechet_sqrt_report, frechet_sqrt_sylvester_report, log_report, frechet_log_report, power_report}
use Rattle.samples.specs.Shown.{Line, hold, numbers}
use Rattle.samples.specs.Opened.{all}
use Rattle.samples_reports.specs.Smallest.{whole, lower, toward}

-- the steps, and 1 where they settled
abbrev steps : Report → List ℕ
steps r = r.steps ∷ cond r.settled 1 0 ∷ []

abbrev identity : List Float
identity = one ∷ +zero ∷ +zero ∷ one ∷ []

abbrev nans : List Float
nans = nan ∷ nan ∷ nan ∷ nan ∷ []

-- ---- roots

unfoldable pub roots : List Line
roots =
    -- [[1/2, 1/3], [1/3, 1/4]]; a matrix with an entry of 2 * 10^12; A = [[3, 0], [2, 4]]
    (8 ∷ 1 ∷ [], steps (root_report binary64 2 (numbers binary64 (0x3fe0000000000000 ∷ 0x3fd5555555555555 ∷ 0x3fd5555555555555 ∷ 0x3fd0000000000000 ∷ []))))
    ∷ (10 ∷ 1 ∷ [], steps (root_report binary64 2 (numbers binary64 (0x40085ebe1e10b468 ∷ 0x427f4ba7df31a240 ∷ 0xbcfa13595a75b3d8 ∷ 0xbcb1ff2fce5231b0 ∷ []))))
    ∷ (6 ∷ 1 ∷ [], steps (frechet_sqrt_report binary64 2 lower))
    ∷ (6 ∷ 1 ∷ [], steps (frechet_sqrt_sylvester_report binary64 2 lower))
    -- NaNs never meet the test
    ∷ (100 ∷ 0 ∷ [], steps (root_report binary64 2 nans))
    -- at order 1 there is no pass; the zero matrix is refused
    ∷ (0 ∷ 1 ∷ [], steps (root_report binary64 1 (whole 4 ∷ [])))
    ∷ (0 ∷ 1 ∷ [], steps (frechet_sqrt_report binary64 1 (whole 4 ∷ [])))
    ∷ (0 ∷ 1 ∷ [], steps (frechet_sqrt_sylvester_report binary64 1 (whole 4 ∷ [])))
    ∷ (0 ∷ 0 ∷ [], let zeros = +zero ∷ +zero ∷ +zero ∷ +zero ∷ [] in steps (report_at (square_root binary64 2 zeros) (root_report binary64 2 zeros)))
    ∷ []

pub roots_hold : hold roots ≡ true
unfolding roots all
roots_hold = refl

unfoldable pub roots_single : List Line
roots_single =
    (7 ∷ 1 ∷ [], steps (root_report binary32 2 (numbers binary32 (0x3f000000 ∷ 0x3eaaaaab ∷ 0x3eaaaaab ∷ 0x3e800000 ∷ []))))
    ∷ (6 ∷ 1 ∷ [], steps (root_report binary32 2 (numbers binary32 (0x40428f5c ∷ 0x53f478e1 ∷ 0xaccc11c1 ∷ 0xba83126f ∷ []))))
    ∷ (5 ∷ 1 ∷ [], steps (frechet_sqrt_report binary32 2 lower))
    ∷ (5 ∷ 1 ∷ [], steps (frechet_sqrt_sylvester_report binary32 2 lower))
    ∷ (100 ∷ 0 ∷ [], steps (root_report binary32 2 nans))
    ∷ (0 ∷ 1 ∷ [], steps (root_report binary32 1 (whole 4 ∷ [])))
    ∷ []

pub roots_hold_single : hold roots_single ≡ true
unfolding roots_single all
roots_hold_single = refl

-- ---- logarithms

unfoldable pub logarithms : List Line
logarithms =
    -- no root and three terms
    (3 ∷ 1 ∷ [], steps (log_report binary64 2 (numbers binary64 (0x3fefffff71c1383d ∷ 0x3e784a7ef78d13d0 ∷ 0xbe72b056afa4e090 ∷ 0x3fefffff57bc7d08 ∷ []))))
    -- a NaN column never wins in the norm, so no root is taken of NaNs; no term meets the test
    ∷ (59 ∷ 0 ∷ [], steps (log_report binary64 2 nans))
    -- both logarithms, and the second one of NaNs
    ∷ (4 ∷ 1 ∷ [], steps (frechet_log_report binary64 2 identity toward))
    ∷ (60 ∷ 0 ∷ [], steps (frechet_log_report binary64 2 identity nans))
    ∷ []

pub logarithms_hold : hold logarithms ≡ true
unfolding logarithms all
logarithms_hold = refl

unfoldable pub logarithms_single : List Line
logarithms_single =
    (1 ∷ 1 ∷ [], steps (log_report binary32 2 identity))
    ∷ (2 ∷ 1 ∷ [], steps (log_report binary32 2 (numbers binary32 (0x3f7fff85 ∷ 0x3727c5ac ∷ 0x37d1b717 ∷ 0x3f7fffa0 ∷ []))))
    -- [[1, x], [0, 1]] with x = 0.1 in binary32, no root and one term; with the next x, a root
    ∷ (1 ∷ 1 ∷ [], steps (log_report binary32 2 (numbers binary32 (0x3f800000 ∷ 0x3dcccccd ∷ 0x00000000 ∷ 0x3f800000 ∷ []))))
    ∷ (3 ∷ 1 ∷ [], steps (log_report binary32 2 (numbers binary32 (0x3f800000 ∷ 0x3dccccce ∷ 0x00000000 ∷ 0x3f800000 ∷ []))))
    ∷ (59 ∷ 0 ∷ [], steps (log_report binary32 2 nans))
    ∷ (4 ∷ 1 ∷ [], steps (frechet_log_report binary32 2 identity toward))
    ∷ (60 ∷ 0 ∷ [], steps (frechet_log_report binary32 2 identity nans))
    ∷ []

pub logarithms_hold_single : hold logarithms_single ≡ true
unfolding logarithms_single all
logarithms_hold_single = refl

-- ---- no iteration: LU, expm, the powers 3 and -7

unfoldable pub none : List Line
none =
    (0 ∷ 1 ∷ [], steps (lu_report binary64 2 lower))
    ∷ (0 ∷ 1 ∷ [], steps (exp_report binary64 2 lower))
    ∷ (0 ∷ 1 ∷ [], steps (power_report binary64 2 lower (whole 3)))
    ∷ (0 ∷ 1 ∷ [], steps (power_report binary64 2 lower (fin true 7 (pos 0))))
    ∷ []

pub none_hold : hold none ≡ true
unfolding none all
none_hold = refl
