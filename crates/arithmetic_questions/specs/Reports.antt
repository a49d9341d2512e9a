-- What an answer reports beside its outcome, as the code's own record `Report`. A further field is one more here, and the contracts, which name these
-- definitions, stay. Definitions only.
use Rattle.std.specs.Prelude.{ℕ, ◌+◌, Bool, true, false, ◌&&◌, Float}
use Rattle.arithmetic_floats.specs.Float.{+infinity, smaller}
use Rattle.arithmetic_questions.specs.Result.{Result, exit}
use Rattle.arithmetic_questions.specs.declared.answer.Report.{Report}

-- of a part that factors nothing and has no iteration
abbrev pub nothing : Report
nothing = record { smallest = +infinity; steps = 0; settled = true }

-- of one factoring with the smallest pivot v
abbrev pub factored : Float → Report
factored v = record { smallest = v; steps = 0; settled = true }

-- of the k steps of an iteration, beside what they factor; b is whether it settled
abbrev pub iterated : ℕ → Bool → Report
iterated k b = record { smallest = +infinity; steps = k; settled = b }

-- of two parts of a run
abbrev pub beside : Report → Report → Report
beside r t = record { smallest = smaller r.smallest t.smallest; steps = r.steps + t.steps; settled = r.settled && t.settled }

-- of a refused call, whatever it had done
abbrev pub refused_report : Report
refused_report = record { smallest = +infinity; steps = 0; settled = false }

-- of a call whose definition gives x: v where that is done
unfoldable pub report_at : {A : Type 0} → Result A → Report → Report
report_at x v = exit (λ _. v) x refused_report
