-- Where the lines of a text start.
use Rattle.std.specs.Prelude.{◌≡◌, ◌<◌, ◌≤◌, ◌==◌, ℕ, zero, suc, List, [], ◌∷◌, length, if◌then◌else◌, get_or}
use Rattle.wy_parse_front.specs.declared.lines.starts.Lines.{Lines}

-- the offsets behind each line feed, of bytes that stand from this offset on
abbrev pub starts_from : ℕ → List ℕ → List ℕ
starts_from o [] = []
starts_from o (b ∷ bs) = if b == 10 then suc o ∷ starts_from (suc o) bs else starts_from (suc o) bs

-- the lines are those of the text
pub record AreLines (bytes : List ℕ) (l : Lines) : Type 0 where
  pub starts : l.starts.items ≡ starts_from 0 bytes
  pub end : l.end ≡ length bytes

-- so many starts are enough to be past no offset: the last of them isn't behind it
abbrev pub LastIsBefore : List ℕ → ℕ → ℕ → Type 0
LastIsBefore ss zero at = Unit {0}
LastIsBefore ss (suc n) at = get_or ss n 0 ≤ at

-- and the next is
abbrev pub NextIsBehind : List ℕ → ℕ → ℕ → Type 0
NextIsBehind ss n at = n < length ss → at < get_or ss n 0

-- the start of the line behind so many starts, where the first line has this one
abbrev pub start_of : ℕ → List ℕ → ℕ → ℕ
start_of start ss zero = start
start_of start ss (suc n) = get_or ss n 0
