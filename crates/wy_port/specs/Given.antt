-- What does a reader give up, where the bytes that it has left are known?
use Rattle.std.specs.Prelude.{ℕ, ◌≤◌, List, length, Option}
use Rattle.std.specs.Io.KnownBytes.{Consumes}

-- a front of what was left, of at most so many bytes
pub record GaveAtMost (before after : Option (List ℕ)) (most : ℕ) : Type 0 where
  pub bytes : List ℕ
  pub within : length bytes ≤ most
  pub gave : Consumes before after bytes
