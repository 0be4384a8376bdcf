-- A sink in memory as plain data, and what its next call does.
use Rattle.std.specs.Prelude.{ℕ, ◌-◌, ◌==◌, List, Option, Some, None, if◌then◌else◌, length, min}
use Rattle.std.specs.List.{list_any}
use Rattle.std.specs.Prelude.{nat_eq}

-- what it has taken, its room and the most that one call takes, both in bytes, the numbers of the calls that fail, and how many calls and faults there were
pub record SinkState : Type 0 where
  pub bytes : List ℕ
  pub room : ℕ
  pub most : ℕ
  pub fails : List ℕ
  pub calls : ℕ
  pub faults : ℕ

-- how many bytes the next call takes of a piece of so many, or none where it fails: with no room left, and where it is listed
abbrev pub next_count : SinkState → ℕ → Option ℕ
next_count s size = if (s.room - length s.bytes) == 0 then None else if list_any (λ number. nat_eq number s.calls) s.fails then None else Some (min (min size s.most) (s.room - length s.bytes))
