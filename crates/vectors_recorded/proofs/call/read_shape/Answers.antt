-- `read_shape` meets its contract: eight words leave an end. Assumes nothing.
use Rattle.vectors_recorded.proofs.Ends.{end_end}
use Rattle.vectors_recorded.proofs.call.read_shape.Goals as goal

pub returns : goal.returns
returns g c =
    end_end _ _ _ c.word.ensures.is_end
    (end_end _ _ _ c.word-2.ensures.is_end
    (end_end _ _ _ c.word-3.ensures.is_end
    (end_end _ _ _ c.word-4.ensures.is_end
    (end_end _ _ _ c.word-5.ensures.is_end
    (end_end _ _ _ c.word-6.ensures.is_end
    (end_end _ _ _ c.word-7.ensures.is_end c.word-8.ensures.is_end))))))
