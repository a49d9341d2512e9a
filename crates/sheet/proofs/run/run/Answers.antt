-- `run` meets its contract. Assumes nothing.
use mathlib.Core.Path.{sym, ◌∙◌}
use lib.Ieee.{binary64}
use Rattle.sheet_encoding.proofs.ParseLaws.{sheet_is}
use Rattle.sheet.proofs.SheetLaws.{lines_refused, lines_accepted}
use native.Mathlib.Omega.{arith}
use Rattle.sheet.proofs.run.run.Goals as goal

pub run_accepted-requires-clause-sheet_is : goal.run_accepted-requires-clause-sheet_is
run_accepted-requires-clause-sheet_is c = sheet_is c.args.s.now _ _ _ _ (sym c.parse_sheet.ensures ∙ c.in-Ok.is)

pub returns-in-Err : goal.returns-in-Err
returns-in-Err c =
    let parsed = c.parse_sheet in
    let line = c.put_sheet_refused.ensures in
    record { wrote = rw (← lines_refused binary64 c.args.s.now parsed.result _ parsed.ensures c.in-Err.is) line.wrote; short = omega (arith, line.upper_bound) }

pub returns-in-Ok : goal.returns-in-Ok
returns-in-Ok c =
    let parsed = c.parse_sheet in
    rw (← lines_accepted binary64 c.args.s.now parsed.result _ parsed.ensures c.in-Ok.is) c.run_accepted.ensures
