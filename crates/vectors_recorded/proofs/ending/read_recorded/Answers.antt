-- `read_recorded` meets its contract: what is read leaves an end. Assumes nothing.
use Rattle.vectors_recorded.proofs.Ends.{end_end}
use Rattle.vectors_recorded.proofs.ending.read_recorded.Goals as goal

pub returns-then-is_done : goal.returns-then-is_done
returns-then-is_done c =
    end_end _ _ _ c.skip_past.ensures.is_end
    (end_end _ _ _ c.word.ensures.is_end
    (end_end _ _ _ c.word-then-is_done.ensures.is_end
    (end_end _ _ _ c.word-then-is_done-2.ensures.is_end c.word-then-is_done-3.ensures.is_end)))

pub returns-else-is_done : goal.returns-else-is_done
returns-else-is_done c =
    end_end _ _ _ c.skip_past.ensures.is_end
    (end_end _ _ _ c.word-else-is_done.ensures.is_end
    (end_end _ _ _ c.word-else-is_done-2.ensures.is_end c.word-else-is_done-3.ensures.is_end))
