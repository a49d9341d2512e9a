-- `questions` meets its contract. Assumes nothing.
use Rattle.std.proofs.Common.{rules, sym, ◌∙◌}
use Rattle.sheet_writing.specs.Written.{questions}
use Rattle.sheet_writing.proofs.QuestionLaws.{ranges_is}
use Rattle.sheet_writing.proofs.questions.questions.Goals as goal

pub returns-in_err-ranges : goal.returns-in_err-ranges
unfolding questions
returns-in_err-ranges c = search rules

pub lengths-requires : goal.lengths-requires
lengths-requires c = (ranges_is _ _ (sym c.ranges-2.ensures ∙ c.in_ok-ranges.was)).counts

pub returns : goal.returns
unfolding questions
returns c = search rules
