-- Which numbers have a mark.
use Rattle.std.specs.Prelude.{ℕ, List, [], ◌∷◌, Bool, true, false, ◌&&◌, ◌||◌, slice_get}
use Rattle.std.specs.Option.{unwrap_or}

-- the number has a mark
abbrev pub mark_at : List Bool → ℕ → Bool
mark_at marks n = unwrap_or (slice_get marks n) false

-- one of the numbers has a mark
abbrev pub any_marked : List Bool → List ℕ → Bool
any_marked marks [] = false
any_marked marks (n ∷ ns) = mark_at marks n || any_marked marks ns

-- one of each list has a mark
abbrev pub each_marked : List Bool → List (List ℕ) → Bool
each_marked marks [] = true
each_marked marks (ns ∷ more) = any_marked marks ns && each_marked marks more
