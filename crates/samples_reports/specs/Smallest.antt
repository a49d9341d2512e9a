-- The smallest pivots that calls report at numbers, in both formats, against the source run in Rust: its own LU beside its steps. The bits are those of the
-- binary64 number that an answer holds.
use Rattle.std.specs.Prelude.{ℕ, ◌≡◌, refl, true, false, List, [], ◌∷◌, map, pos, Float}
use Rattle.std.specs.Float.{nan, inf, fin, Format, binary32, binary64}
use Rattle.std.specs.Float.Ieee.{to_bits}
use Rattle.arithmetic_floats.specs.Float.{+zero, one}
use Rattle.arithmetic_questions.specs.Reports.{report_at}
use Rattle.arithmetic_questions.specs.declared.answer.Report.{Report}
use Rattle.functions_definitions.specs.Roots.{square_root}
use Rattle.functions_definitions.specs.Reports.{lu_report, exp_report, frechet_exp_report, cond_exp_report, root_report, frechet_sqrt_report, frechet_sqrt_sylvester_report, power_report}
use Rattle.samples.specs.Shown.{same}
use Rattle.samples.specs.Opened.{all}

-- the bits of the smallest pivots
abbrev bits : List Report → List ℕ
bits l = map (λ (r : Report). to_bits binary64 r.smallest) l

-- ---- the numbers: A = [[3, 0], [2, 4]], the direction E = [[1, 2], [3, 4]]

abbrev pub whole : ℕ → Float
whole n = fin false n (pos 0)

abbrev pub lower : List Float
lower = whole 3 ∷ +zero ∷ whole 2 ∷ whole 4 ∷ []

abbrev pub toward : List Float
toward = whole 1 ∷ whole 2 ∷ whole 3 ∷ whole 4 ∷ []

-- ---- LU

abbrev factorings : Format → List Report
factorings f =
    -- [[0, 1], [2, 0]], and A
    lu_report f 2 (+zero ∷ one ∷ whole 2 ∷ +zero ∷ [])
    ∷ lu_report f 2 lower
    -- [NaN], diag(1, NaN), [-infinity]: a NaN is skipped, an infinity counts
    ∷ lu_report f 1 (nan ∷ [])
    ∷ lu_report f 2 (one ∷ +zero ∷ +zero ∷ nan ∷ [])
    ∷ lu_report f 1 (inf true ∷ [])
    -- diag(1, 0) is refused; order 0 has no pivot
    ∷ lu_report f 2 (one ∷ +zero ∷ +zero ∷ +zero ∷ [])
    ∷ lu_report f 0 []
    ∷ []

abbrev factorings_bits : List ℕ
factorings_bits = 0x3ff0000000000000 ∷ 0x4008000000000000 ∷ 0x7ff0000000000000 ∷ 0x3ff0000000000000 ∷ 0x7ff0000000000000 ∷ 0x7ff0000000000000 ∷ 0x7ff0000000000000 ∷ []

pub factorings_hold : same factorings_bits (bits (factorings binary64)) ≡ true
unfolding all
factorings_hold = refl

pub factorings_hold_single : same factorings_bits (bits (factorings binary32)) ≡ true
unfolding all
factorings_hold_single = refl

-- ---- functions with one factoring or none

abbrev exponentials : Format → List Report
exponentials f =
    exp_report f 2 lower
    ∷ frechet_exp_report f 2 lower toward
    ∷ cond_exp_report f 2 lower
    -- powers -7 and 3
    ∷ power_report f 2 lower (fin true 7 (pos 0))
    ∷ power_report f 2 lower (whole 3)
    ∷ []

pub exponentials_hold : same (0x3fe8e3f76d326011 ∷ 0x3fec3b27e3a8ad9b ∷ 0x3fe8e3f76d326011 ∷ 0x4008000000000000 ∷ 0x7ff0000000000000 ∷ []) (bits (exponentials binary64)) ≡ true
unfolding all
exponentials_hold = refl

pub exponentials_hold_single : same (0x3fe8e3f780000000 ∷ 0x3fec3b27e0000000 ∷ 0x3fe8e3f780000000 ∷ 0x4008000000000000 ∷ 0x7ff0000000000000 ∷ []) (bits (exponentials binary32)) ≡ true
unfolding all
exponentials_hold_single = refl

-- ---- roots: of A; of [[1, 0], [2 ^ 17, 1]], where the system has the smallest pivot; at order 1; of the zero matrix, whose first pass factors z, and is
-- refused

abbrev roots : Format → List Report
roots f =
    root_report f 2 lower
    ∷ frechet_sqrt_report f 2 lower
    ∷ frechet_sqrt_sylvester_report f 2 lower
    ∷ frechet_sqrt_sylvester_report f 2 (one ∷ +zero ∷ fin false 1 (pos 17) ∷ one ∷ [])
    ∷ root_report f 1 (whole 4 ∷ [])
    ∷ frechet_sqrt_report f 1 (whole 4 ∷ [])
    ∷ frechet_sqrt_sylvester_report f 1 (whole 4 ∷ [])
    ∷ (let zeros = +zero ∷ +zero ∷ +zero ∷ +zero ∷ [] in report_at (square_root f 2 zeros) (root_report f 2 zeros))
    ∷ []

pub roots_hold : same (0x3fe0000000000005 ∷ 0x3fe0000000000005 ∷ 0x3fe0000000000005 ∷ 0x3ee0000000000000 ∷ 0x7ff0000000000000 ∷ 0x7ff0000000000000 ∷ 0x7ff0000000000000 ∷ 0x7ff0000000000000 ∷ []) (bits (roots binary64)) ≡ true
unfolding all
roots_hold = refl

pub roots_hold_single : same (0x3fe0000000000000 ∷ 0x3fe0000000000000 ∷ 0x3fe0000000000000 ∷ 0x3ee0000000000000 ∷ 0x7ff0000000000000 ∷ 0x7ff0000000000000 ∷ 0x7ff0000000000000 ∷ 0x7ff0000000000000 ∷ []) (bits (roots binary32)) ≡ true
unfolding all
roots_hold_single = refl
