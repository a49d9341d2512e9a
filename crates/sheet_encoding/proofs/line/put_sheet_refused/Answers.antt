-- `put_sheet_refused` meets its contract. Assumes nothing.
use mathlib.Core.List.{[]}
use lib.Ieee.{binary64}
use Rattle.sheet_encoding.specs.Parse.{sheet_numbered}
use Rattle.sheet_encoding.proofs.LineLaws.{refused_line_lem}
use Rattle.sheet_encoding.proofs.line.put_sheet_refused.Goals as goal

pub returns-clause-wrote : goal.returns-clause-wrote
returns-clause-wrote c = rw (← refused_line_lem binary64 0 _ _ _ (sheet_numbered c.args.why) [] c.from.ensures) c.put_refused.ensures.wrote
