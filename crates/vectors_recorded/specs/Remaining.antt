-- What of a text is left, before and after a reader reads. Definitions only.
use Rattle.std.specs.Prelude.{◌≡◌, ℕ, ◌<◌, List, ◌++◌, length}

-- what is left after is an end of what was left before
pub record IsEndOf (before after : List ℕ) : Type 0 where
  pub read : List ℕ
  pub parts : before ≡ read ++ after

-- an end, and fewer bytes where there was anything to read
pub record Remaining (before after : List ℕ) : Type 0 where
  pub is_end : IsEndOf before after
  pub past : 0 < length before → length after < length before
