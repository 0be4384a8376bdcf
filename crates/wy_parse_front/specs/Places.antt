-- Lines and columns. A line feed ends a line; columns count bytes.
use Rattle.std.specs.Prelude.{ℕ, ◌+◌, ◌==◌, List, [], ◌∷◌, take, if◌then◌else◌}

-- the line and the column behind the bytes, that stand at this line and column
abbrev pub place_behind : ℕ → ℕ → List ℕ → ℕ × ℕ
place_behind line column [] = (line, column)
place_behind line column (b ∷ bs) = if b == 10 then place_behind (line + 1) 1 bs else place_behind line (column + 1) bs

-- the line and the column of the offset, both from 1
abbrev pub place_of : List ℕ → ℕ → ℕ × ℕ
place_of bytes at = place_behind 1 1 (take at bytes)
